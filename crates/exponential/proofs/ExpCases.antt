-- The cases of `exp_bits`: b is the pattern of x, below 2 ^ 32, and a its part with no sign.
use mathlib.Core.Path.{◌≡◌, sym, ap, ◌∙◌}
use mathlib.Core.Bool.{Bool}
use Prim.Native.Nat.{ℕ, ◌+◌, ◌-◌, ◌*◌, ◌/◌, ◌%◌, ◌^◌, ◌≤◌, ◌<◌}
use native.Mathlib.Nat.{le_trans, le_of_eq, le_of_lt, mul-le-mul, mul-le-mul_right, lt_of_lt_of_le}
use native.Mathlib.Omega.{arith}
use lib.Dec.{ltb, lit≤, lit<}
use lib.Pow.{pow_mono}
use borrow.Author.Tests.{le-ltb, lt-ltb, le-leb, lt-leb}
use Rattle.cases.proofs.Cases.{split}
use Rattle.fixed.specs.Fixed.{pick, scaled_of}
use Rattle.exponential.specs.Exp.{grown, shrunk, rounded_to24, lowered, exp_of_positive, exp_of_negative, sized, exp_bits}

module _ (b : ℕ) where
  pub at-nan : 0x7f80_0000 < b % 2 ^ 31 → exp_bits b ≡ 0x7fc0_0000
  unfolding exp_bits
  at-nan h = ap (λ (x : Bool). pick x 0x7fc0_0000 (sized (b / 2 ^ 31) (b % 2 ^ 31))) (lt-ltb _ _ h)

  known : b % 2 ^ 31 ≤ 0x7f80_0000 → exp_bits b ≡ sized (b / 2 ^ 31) (b % 2 ^ 31)
  unfolding exp_bits
  known h = ap (λ (x : Bool). pick x 0x7fc0_0000 (sized (b / 2 ^ 31) (b % 2 ^ 31))) (le-ltb _ _ h)

  pub at-tiny : b % 2 ^ 31 < 0x3300_0000 → exp_bits b ≡ 0x3f80_0000
  at-tiny h = known (omega arith) ∙ ap (λ (x : Bool). pick x 0x3f80_0000 (pick (ltb (b / 2 ^ 31) 1) (exp_of_positive (b % 2 ^ 31)) (exp_of_negative (b % 2 ^ 31)))) (lt-ltb _ _ h)

  wide : b % 2 ^ 31 ≤ 0x7f80_0000 → 0x3300_0000 ≤ b % 2 ^ 31 → exp_bits b ≡ pick (ltb (b / 2 ^ 31) 1) (exp_of_positive (b % 2 ^ 31)) (exp_of_negative (b % 2 ^ 31))
  wide h k = known h ∙ ap (λ (x : Bool). pick x 0x3f80_0000 (pick (ltb (b / 2 ^ 31) 1) (exp_of_positive (b % 2 ^ 31)) (exp_of_negative (b % 2 ^ 31)))) (le-ltb _ _ k)

  plus : b % 2 ^ 31 ≤ 0x7f80_0000 → 0x3300_0000 ≤ b % 2 ^ 31 → b / 2 ^ 31 < 1 → exp_bits b ≡ exp_of_positive (b % 2 ^ 31)
  plus h k s = wide h k ∙ ap (λ (x : Bool). pick x (exp_of_positive (b % 2 ^ 31)) (exp_of_negative (b % 2 ^ 31))) (lt-ltb _ _ s)

  minus : b % 2 ^ 31 ≤ 0x7f80_0000 → 0x3300_0000 ≤ b % 2 ^ 31 → 1 ≤ b / 2 ^ 31 → exp_bits b ≡ exp_of_negative (b % 2 ^ 31)
  minus h k s = wide h k ∙ ap (λ (x : Bool). pick x (exp_of_positive (b % 2 ^ 31)) (exp_of_negative (b % 2 ^ 31))) (le-ltb _ _ s)

  pub at_top : b % 2 ^ 31 ≤ 0x7f80_0000 → b / 2 ^ 31 < 1 → 0x42b1_7218 ≤ b % 2 ^ 31 → exp_bits b ≡ 0x7f80_0000
  at_top h s k = plus h (omega arith) s ∙ ap (λ (x : Bool). pick x 0x7f80_0000 (grown (scaled_of (b % 2 ^ 31) 94))) (le-leb _ _ k)

  pub at-plus : b / 2 ^ 31 < 1 → 0x3300_0000 ≤ b % 2 ^ 31 → b % 2 ^ 31 < 0x42b1_7218 → exp_bits b ≡ grown (scaled_of (b % 2 ^ 31) 94)
  at-plus s l h = plus (omega arith) l s ∙ ap (λ (x : Bool). pick x 0x7f80_0000 (grown (scaled_of (b % 2 ^ 31) 94))) (lt-leb _ _ h)

  pub at-bottom : b % 2 ^ 31 ≤ 0x7f80_0000 → 1 ≤ b / 2 ^ 31 → 0x42d0_0000 ≤ b % 2 ^ 31 → exp_bits b ≡ 0
  at-bottom h s k = minus h (omega arith) s ∙ ap (λ (x : Bool). pick x 0 (shrunk (scaled_of (b % 2 ^ 31) 94))) (le-leb _ _ k)

  pub at-minus : 1 ≤ b / 2 ^ 31 → 0x3300_0000 ≤ b % 2 ^ 31 → b % 2 ^ 31 < 0x42d0_0000 → exp_bits b ≡ shrunk (scaled_of (b % 2 ^ 31) 94)
  at-minus s l h = minus (omega arith) l s ∙ ap (λ (x : Bool). pick x 0 (shrunk (scaled_of (b % 2 ^ 31) 94))) (lt-leb _ _ h)

-- ---- the two ways to round e ^ -x
module _ (e h : ℕ) where
  pub lowered-normal : e ≤ 125 → lowered e h ≡ (125 - e) * 2 ^ 23 + rounded_to24 h
  lowered-normal k = ap (λ (x : Bool). pick x ((125 - e) * 2 ^ 23 + rounded_to24 h) ((h / 2 ^ (e - 87) + 1) / 2)) (le-leb _ _ k)

  pub lowered-subnormal : 125 < e → lowered e h ≡ (h / 2 ^ (e - 87) + 1) / 2
  lowered-subnormal k = ap (λ (x : Bool). pick x ((125 - e) * 2 ^ 23 + rounded_to24 h) ((h / 2 ^ (e - 87) + 1) / 2)) (lt-leb _ _ k)

-- ---- the magnitude's range: m * 2 ^ e with e up to 39
module _ (a : ℕ) where
  m-le : 2 ^ 23 + a % 2 ^ 23 ≤ 2 ^ 24
  m-le = omega arith

  pub scaled-le : (M : ℕ) → 2 ^ 23 ≤ M → a ≤ 132 * 2 ^ 23 + M → M < 2 ^ 24 → scaled_of a 94 ≤ M * 2 ^ 39
  scaled-le M l h u =
      split (a / 2 ^ 23) 133
      (λ k. le_trans (mul-le-mul m-le (pow_mono {i = a / 2 ^ 23 - 94} {j = 38} (omega arith))) (le_trans {m = 2 ^ 23 * 2 ^ 39} (lit≤ tt) (mul-le-mul_right (2 ^ 39) l)))
      (λ k. mul-le-mul {n₁ = 2 ^ 23 + a % 2 ^ 23} (omega arith) (pow_mono {i = a / 2 ^ 23 - 94} {j = 39} (omega arith)))

  pub scaled-ge : (M : ℕ) → 2 ^ 23 ≤ M → 132 * 2 ^ 23 + M ≤ a → M < 2 ^ 24 → M * 2 ^ 39 ≤ scaled_of a 94
  scaled-ge M l h u =
      split (a / 2 ^ 23) 134
      (λ k. mul-le-mul {n₁ = M} (omega arith) (pow_mono {i = 39} {j = a / 2 ^ 23 - 94} (omega arith)))
      (λ k. le_trans (mul-le-mul_right (2 ^ 39) (le_of_lt u)) (le_trans {m = 2 ^ 23 * 2 ^ 40} (lit≤ tt) (mul-le-mul {n₁ = 2 ^ 23} (omega arith) (pow_mono {i = 40} {j = a / 2 ^ 23 - 94} (omega arith)))))

  pub below-plus : a < 0x42b1_7218 → scaled_of a 94 ≤ 0xb1_7217 * 2 ^ 39
  below-plus h = scaled-le 0xb1_7217 (lit≤ tt) (omega arith) (lit< tt)

  pub below-minus : a < 0x42d0_0000 → scaled_of a 94 ≤ 104 * 2 ^ 56
  below-minus h = le_trans (scaled-le 0xcf_ffff (lit≤ tt) (omega arith) (lit< tt)) (lit≤ tt)

-- ---- the sign's choices, as the code makes them: v is the limit
module _ (b v : ℕ) (e : v ≡ pick (ltb (b / 2 ^ 31) 1) 0x42b1_7218 0x42d0_0000) where
  if-plus : b / 2 ^ 31 < 1 → {x : ℕ} (y z : ℕ) → x ≡ pick (ltb (b / 2 ^ 31) 1) y z → x ≡ y
  if-plus s y z p = p ∙ ap (λ (t : Bool). pick t y z) (lt-ltb _ _ s)

  if-minus : 1 ≤ b / 2 ^ 31 → {x : ℕ} (y z : ℕ) → x ≡ pick (ltb (b / 2 ^ 31) 1) y z → x ≡ z
  if-minus s y z p = p ∙ ap (λ (t : Bool). pick t y z) (le-ltb _ _ s)

  pub at-past : (w : ℕ) → b % 2 ^ 31 ≤ 0x7f80_0000 → v ≤ b % 2 ^ 31 → w ≡ pick (ltb (b / 2 ^ 31) 1) 0x7f80_0000 0 → w ≡ exp_bits b
  at-past w h k f =
      split (b / 2 ^ 31) 1
      (λ s. if-plus s 0x7f80_0000 0 f ∙ sym (at_top b h s (le_trans (le_of_eq (sym (if-plus s 0x42b1_7218 0x42d0_0000 e))) k)))
      (λ s. if-minus s 0x7f80_0000 0 f ∙ sym (at-bottom b h s (le_trans (le_of_eq (sym (if-minus s 0x42b1_7218 0x42d0_0000 e))) k)))

  pub at-signed : (w : ℕ) → 0x3300_0000 ≤ b % 2 ^ 31 → b % 2 ^ 31 < v → w ≡ pick (ltb (b / 2 ^ 31) 1) (grown (scaled_of (b % 2 ^ 31) 94)) (shrunk (scaled_of (b % 2 ^ 31) 94)) → w ≡ exp_bits b
  at-signed w l k f =
      split (b / 2 ^ 31) 1
      (λ s. if-plus s (grown (scaled_of (b % 2 ^ 31) 94)) (shrunk (scaled_of (b % 2 ^ 31) 94)) f ∙ sym (at-plus b s l (lt_of_lt_of_le k (le_of_eq (if-plus s 0x42b1_7218 0x42d0_0000 e)))))
      (λ s. if-minus s (grown (scaled_of (b % 2 ^ 31) 94)) (shrunk (scaled_of (b % 2 ^ 31) 94)) f ∙ sym (at-minus b s l (lt_of_lt_of_le k (le_of_eq (if-minus s 0x42b1_7218 0x42d0_0000 e)))))

  pub limit-le : v ≤ 0x42d0_0000
  limit-le = split (b / 2 ^ 31) 1 (λ s. le_trans (le_of_eq (if-plus s 0x42b1_7218 0x42d0_0000 e)) (lit≤ tt)) (λ s. le_of_eq (if-minus s 0x42b1_7218 0x42d0_0000 e))

  pub in-range : b % 2 ^ 31 < v → scaled_of (b % 2 ^ 31) 94 + (1 - b / 2 ^ 31) * (0x1e_8de9 * 2 ^ 39) ≤ 104 * 2 ^ 56
  in-range k =
      split (b / 2 ^ 31) 1
      (λ s. plus' (scaled_of (b % 2 ^ 31) 94) (b / 2 ^ 31) (below-plus (b % 2 ^ 31) (lt_of_lt_of_le k (le_of_eq (if-plus s 0x42b1_7218 0x42d0_0000 e)))))
      (λ s. minus' (scaled_of (b % 2 ^ 31) 94) (b / 2 ^ 31) s (below-minus (b % 2 ^ 31) (lt_of_lt_of_le k (le_of_eq (if-minus s 0x42b1_7218 0x42d0_0000 e)))))
    where
      plus' : (x s : ℕ) → x ≤ 0xb1_7217 * 2 ^ 39 → x + (1 - s) * (0x1e_8de9 * 2 ^ 39) ≤ 104 * 2 ^ 56
      plus' x s h = omega arith

      minus' : (x s : ℕ) → 1 ≤ s → x ≤ 104 * 2 ^ 56 → x + (1 - s) * (0x1e_8de9 * 2 ^ 39) ≤ 104 * 2 ^ 56
      minus' x s p h = omega arith
