-- Enclosures of sine and cosine within 2 ^ -109, for every angle y / 2 ^ 56 from 2 ^ -14 to 2, and what the arc sine's proof asks of them.
use mathlib.Core.Path.{◌≡◌, subst, sym}
use Prim.Native.Nat.{ℕ, zero, suc, ◌+◌, ◌*◌, ◌^◌, ◌≤◌, ◌<◌}
use native.Mathlib.Nat.{le_trans, le_of_eq, add-le-add, mul-le-mul_left, mul-le-mul_right, le_of_mul-le-mul_right, not-le_of_lt, pow-le-pow_left, suc-mul, mul_assoc, le-add_left, le-add_right}
use native.Mathlib.Omega.{arith}
use lib.Dec.{lit≤}
use lib.Pow.{pow_pos}
use Rattle.series.specs.Series.{full, num, class, SinLe, SinGe}
use Rattle.series.proofs.Terms.{pow-1, full-1}
use Rattle.series.proofs.Addition.{full-pos}
use Rattle.cases.proofs.Cases.{split}
use Rattle.series.proofs.Fractions.{num-mono}
use Rattle.series.proofs.Weighted.{grows, above, low-later}
use Rattle.series.proofs.Waves.{Enc4}
use Rattle.series.proofs.SmallAngle.{class-le}
use Rattle.series.proofs.Sharp.{portion, portion-low, portion-next, sharp-to}
use Rattle.series.proofs.SineSign.{thirds}

abbrev pub fine : ℕ → ℕ → ℕ
fine r y = portion (2 ^ 110) 45 r y

enough : 2 ^ 110 * (2 ^ 57) ^ 45 ≤ full (2 ^ 56) 45
unfolding full
enough = lit≤ tt

-- no class exceeds 8 up to 2
four-terms : (r : ℕ) → r < 3 → 1 * (num (class r) (2 ^ 57) (2 ^ 56) 4 + (2 ^ 57) ^ 4) ≤ 8 * full (2 ^ 56) 4
unfolding num full class
four-terms zero h = lit≤ tt
four-terms (suc zero) h = lit≤ tt
four-terms (suc (suc zero)) h = lit≤ tt
four-terms (suc (suc (suc r))) h = absurd (no r h)
  where
    no : (r : ℕ) → suc (suc (suc r)) < 3 → ⊥
    no r g = omega arith

num-one : (n d : ℕ) → num (class 1) n d 1 ≡ n
unfolding num class
num-one n d = go (n ^ 1) (pow-1 n)
  where
    go : (p : ℕ) → p ≡ n → 0 * (d * 1) + 1 * p ≡ n
    go p e = omega arith

module _ (y : ℕ) (large : 2 ^ 42 ≤ y) (small : y ≤ 2 ^ 57) where
  pub enc : Enc4 y (2 ^ 56) (2 ^ 110) (fine 0 y) (fine 1 y) (fine 2 y) (fine 3 y) (fine 0 y + 2) (fine 1 y + 2) (fine 2 y + 2) (fine 3 y + 2)
  enc = sharp-to (2 ^ 110) 45 (lit≤ tt) enough y small

  pub most : (r : ℕ) → r < 3 → fine r y ≤ 2 ^ 113
  most r h =
      go (2 ^ 110) (fine r y) (num (class r) y (2 ^ 56) 45) (full (2 ^ 56) 45) (full-pos (2 ^ 56) 45 (pow_pos 56)) (portion-low (2 ^ 110) 45 r y)
      (above (class r) (class-le r) y (2 ^ 56) 8 1 4 (pow_pos 56) (omega arith)
      (le_trans (mul-le-mul_left 1 (add-le-add (num-mono (class r) y (2 ^ 57) (2 ^ 56) 4 small) (pow-le-pow_left small 4))) (four-terms r h)) 45)
    where
      go : (m p n F : ℕ) → 0 < F → p * F ≤ m * n → 1 * n ≤ 8 * F → p ≤ 8 * m
      go m p n F P a b = le_of_mul-le-mul_right {k = F} (omega (arith, a, mul-le-mul_left m b)) P

  first : 2 ^ 54 * y ≤ fine 1 y
  first =
      go (2 ^ 54) (fine 1 y) (num (class 1) y (2 ^ 56) 45) (full (2 ^ 56) 45) (portion-next (2 ^ 110) 45 1 y)
      (subst (λ (x : ℕ). x * full (2 ^ 56) 45 ≤ num (class 1) y (2 ^ 56) 45 * 2 ^ 56) (num-one y (2 ^ 56)) (subst (λ (x : ℕ). num (class 1) y (2 ^ 56) 1 * full (2 ^ 56) 45 ≤ num (class 1) y (2 ^ 56) 45 * x) (full-1 (2 ^ 56)) (grows (class 1) (class-le 1) y (2 ^ 56) 1 44)))
    where
      go : (m p n F : ℕ) → m * 2 ^ 56 * n < p * F + F → y * F ≤ n * 2 ^ 56 → m * y ≤ p
      go m p n F a b = split p (m * y) (λ l. absurd (not-le_of_lt a (le_trans (le_trans (le_of_eq (sym (suc-mul p F))) (mul-le-mul_right F l)) (le_trans (le_of_eq (mul_assoc m y F)) (le_trans (mul-le-mul_left m b) (le_of_eq (two m n))))))) (λ l. l)
        where
          two : (m n : ℕ) → m * (n * 2 ^ 56) ≡ m * 2 ^ 56 * n
          two m n = omega arith

  third : 3 * fine 3 y ≤ 2 * fine 1 y + 1
  third = go (2 ^ 110) (fine 3 y) (fine 1 y) (num (class 3) y (2 ^ 56) 45) (num (class 1) y (2 ^ 56) 45) (full (2 ^ 56) 45) (portion-low (2 ^ 110) 45 3 y) (portion-next (2 ^ 110) 45 1 y) (thirds y (2 ^ 56) (pow_pos 56) small 43)
    where
      go : (m p q n k F : ℕ) → p * F ≤ m * n → m * k < q * F + F → 3 * n ≤ 2 * k → 3 * p ≤ 2 * q + 1
      go m p q n k F a b c = split (2 * q + 1) (3 * p) (λ l. absurd (not-le_of_lt b (le_of_mul-le-mul_right {k = 2} (omega (arith, a, mul-le-mul_left m c, mul-le-mul_right F l)) (omega arith)))) (λ l. l)

  -- the sine is well above 0
  pub apart : fine 3 y + 2 ^ 94 ≤ fine 1 y
  apart = go (fine 3 y) (fine 1 y) third (le_trans (mul-le-mul_left (2 ^ 54) large) first)
    where
      go : (p q : ℕ) → 3 * p ≤ 2 * q + 1 → 2 ^ 54 * 2 ^ 42 ≤ q → p + 2 ^ 94 ≤ q
      go p q a b = omega arith

  -- what the partial sums say, the enclosures say too, but for their width
  back : (F c n M p q r s h h' l l' : ℕ) → 0 < F → l * F ≤ M * p → l' * F ≤ M * q → M * r ≤ h * F → M * s ≤ h' * F → p * c + q * n ≤ r * c + s * n → l * c + l' * n ≤ h * c + h' * n
  back F c n M p q r s h h' l l' P a b e g i =
      le_of_mul-le-mul_right {k = F} (omega (arith, mul-le-mul_right c a, mul-le-mul_right n b, mul-le-mul_right c e, mul-le-mul_right n g, mul-le-mul_left M i)) P

  low : (r k : ℕ) → 45 ≤ k → fine r y * full (2 ^ 56) k ≤ 2 ^ 110 * num (class r) y (2 ^ 56) k
  low r k h = low-later (class r) (class-le r) y (2 ^ 56) (fine r y) (2 ^ 110) 45 (pow_pos 56) (portion-low (2 ^ 110) 45 r y) k h

  pub from_le : (n c : ℕ) → SinLe y (2 ^ 56) n c → fine 1 y * c + fine 2 y * n ≤ (fine 3 y + 2) * c + (fine 0 y + 2) * n
  from_le n c L =
      let k = L.0 + 45 in
      back (full (2 ^ 56) k) c n (2 ^ 110) (num (class 1) y (2 ^ 56) k) (num (class 2) y (2 ^ 56) k) (num (class 3) y (2 ^ 56) k) (num (class 0) y (2 ^ 56) k) (fine 3 y + 2) (fine 0 y + 2) (fine 1 y) (fine 2 y) (full-pos (2 ^ 56) k (pow_pos 56))
      (low 1 k (le-add_left 45 L.0)) (low 2 k (le-add_left 45 L.0)) (enc.high3 k) (enc.high0 k) (L.1 k (le-add_right L.0 45))

  pub from-ge : (n c : ℕ) → SinGe y (2 ^ 56) n c → fine 3 y * c + fine 0 y * n ≤ (fine 1 y + 2) * c + (fine 2 y + 2) * n
  from-ge n c L =
      let k = L.0 + 45 in
      back (full (2 ^ 56) k) c n (2 ^ 110) (num (class 3) y (2 ^ 56) k) (num (class 0) y (2 ^ 56) k) (num (class 1) y (2 ^ 56) k) (num (class 2) y (2 ^ 56) k) (fine 1 y + 2) (fine 2 y + 2) (fine 3 y) (fine 0 y) (full-pos (2 ^ 56) k (pow_pos 56))
      (low 3 k (le-add_left 45 L.0)) (low 0 k (le-add_left 45 L.0)) (enc.high1 k) (enc.high2 k) (L.1 k (le-add_right L.0 45))
