-- The cases of `ln_bits`: zeros, NaN and what is below 0, infinity, 1, and finite patterns above 1, below 1 and below the normal range.
use mathlib.Core.Path.{◌≡◌, sym, ap, ◌∙◌}
use mathlib.Core.Bool.{Bool}
use Prim.Native.Nat.{ℕ, suc, ◌+◌, ◌-◌, ◌*◌, ◌/◌, ◌%◌, ◌^◌, ◌≤◌, ◌<◌}
use native.Mathlib.Nat.{le_trans, le_of_eq, lt_of_lt_of_le, lt_of_le_of_lt, lt_of_not-le, not-le_of_lt, mul-le-mul_right, mul-lt-mul_of_pos_right}
use native.Mathlib.Omega.{arith}
use lib.Dec.{leb, ltb, eqb, lit≤}
use lib.Pow.{pow_pos, pow_mono, pow-add}
use lib.Count.{count_leading_zeros, leading_top}
use borrow.Author.Tests.{le-ltb, lt-ltb, le-leb, lt-leb, eq-eqb, ne_eqb}
use Rattle.fixed.specs.Fixed.{pick}
use Rattle.logarithm.specs.Ln.{above, below, finite, ln_bits}

module _ (b : ℕ) where
  pub ln-zero : b % 2 ^ 31 ≡ 0 → ln_bits b ≡ 0xff80_0000
  unfolding ln_bits
  ln-zero h = ap (λ (x : Bool). pick x 0xff80_0000 (pick (ltb 0x7f80_0000 b) 0x7fc0_0000 (pick (eqb b 0x7f80_0000) 0x7f80_0000 (finite b)))) (eq-eqb _ _ h)

  some : (b % 2 ^ 31 ≡ 0 → ⊥) → ln_bits b ≡ pick (ltb 0x7f80_0000 b) 0x7fc0_0000 (pick (eqb b 0x7f80_0000) 0x7f80_0000 (finite b))
  unfolding ln_bits
  some h = ap (λ (x : Bool). pick x 0xff80_0000 (pick (ltb 0x7f80_0000 b) 0x7fc0_0000 (pick (eqb b 0x7f80_0000) 0x7f80_0000 (finite b)))) (ne_eqb _ _ h)

  pub ln-none : (b % 2 ^ 31 ≡ 0 → ⊥) → 0x7f80_0000 < b → ln_bits b ≡ 0x7fc0_0000
  ln-none h k = some h ∙ ap (λ (x : Bool). pick x 0x7fc0_0000 (pick (eqb b 0x7f80_0000) 0x7f80_0000 (finite b))) (lt-ltb _ _ k)

  number : 0 < b → b ≤ 0x7f80_0000 → ln_bits b ≡ pick (eqb b 0x7f80_0000) 0x7f80_0000 (finite b)
  number h k = some (λ (e : b % 2 ^ 31 ≡ 0). omega arith) ∙ ap (λ (x : Bool). pick x 0x7fc0_0000 (pick (eqb b 0x7f80_0000) 0x7f80_0000 (finite b))) (le-ltb _ _ k)

  pub ln-inf : b ≡ 0x7f80_0000 → ln_bits b ≡ 0x7f80_0000
  ln-inf e = number (omega arith) (omega arith) ∙ ap (λ (x : Bool). pick x 0x7f80_0000 (finite b)) (eq-eqb _ _ e)

  usual : 0 < b → b < 0x7f80_0000 → ln_bits b ≡ finite b
  usual h k = number h (omega arith) ∙ ap (λ (x : Bool). pick x 0x7f80_0000 (finite b)) (ne_eqb b 0x7f80_0000 (λ (e : b ≡ 0x7f80_0000). omega arith))

  abbrev up : ℕ
  up = above (2 ^ 23 + b % 2 ^ 23) (b / 2 ^ 23 - 127)

  abbrev down : ℕ
  down = below (2 ^ 23 + b % 2 ^ 23) (127 - b / 2 ^ 23)

  abbrev deep : ℕ
  deep = below (b * 2 ^ (count_leading_zeros 32 b - 8)) (118 + count_leading_zeros 32 b)

  from-1 : 0x3f80_0000 ≤ b → b < 0x7f80_0000 → ln_bits b ≡ pick (eqb b 0x3f80_0000) 0 up
  from-1 h k = usual (omega arith) k ∙ ap (λ (x : Bool). pick x (pick (eqb b 0x3f80_0000) 0 up) (pick (leb (2 ^ 23) b) down deep)) (le-leb _ _ h)

  pub ln-1 : b ≡ 0x3f80_0000 → ln_bits b ≡ 0
  ln-1 e = from-1 (omega arith) (omega arith) ∙ ap (λ (x : Bool). pick x 0 up) (eq-eqb _ _ e)

  pub ln-up : 0x3f80_0000 < b → b < 0x7f80_0000 → ln_bits b ≡ up
  ln-up h k = from-1 (omega arith) k ∙ ap (λ (x : Bool). pick x 0 up) (ne_eqb b 0x3f80_0000 (λ (e : b ≡ 0x3f80_0000). omega arith))

  to-1 : 0 < b → b < 0x3f80_0000 → ln_bits b ≡ pick (leb (2 ^ 23) b) down deep
  to-1 h k = usual h (omega arith) ∙ ap (λ (x : Bool). pick x (pick (eqb b 0x3f80_0000) 0 up) (pick (leb (2 ^ 23) b) down deep)) (lt-leb _ _ k)

  pub ln-down : 2 ^ 23 ≤ b → b < 0x3f80_0000 → ln_bits b ≡ down
  ln-down h k = to-1 (omega arith) k ∙ ap (λ (x : Bool). pick x down deep) (le-leb _ _ h)

  pub ln-deep : 0 < b → b < 2 ^ 23 → ln_bits b ≡ deep
  ln-deep h k = to-1 h (omega arith) ∙ ap (λ (x : Bool). pick x down deep) (lt-leb _ _ k)

-- a subnormal, its leading zeros shifted out
pub record Shifted (b : ℕ) : Type 0 where
  pub zeros : 8 < count_leading_zeros 32 b
  pub most : count_leading_zeros 32 b ≤ 31
  pub least : 2 ^ 23 ≤ b * 2 ^ (count_leading_zeros 32 b - 8)
  pub below : b * 2 ^ (count_leading_zeros 32 b - 8) < 2 ^ 24

pub shifted : (b : ℕ) → 0 < b → b < 2 ^ 23 → Shifted b
shifted b h k =
    let t = leading_top 32 b h (lt_of_lt_of_le k (lit≤ tt)) in
    let l = count_leading_zeros 32 b in
    let j = t.0 in
    let e : l + suc j ≡ 32 = t.1 in
    let J : j ≤ 22 = up_to j (lt_of_le_of_lt t.2 k) in
    record {
      zeros = omega arith;
      most = omega arith;
      least = le_trans (le_of_eq (sym (ap (λ (x : ℕ). 2 ^ x) (line l j e J)) ∙ pow-add 2 j (l - 8))) (mul-le-mul_right (2 ^ (l - 8)) t.2);
      below = lt_of_lt_of_le (mul-lt-mul_of_pos_right t.3 (pow_pos (l - 8))) (le_of_eq (sym (pow-add 2 (suc j) (l - 8)) ∙ ap (λ (x : ℕ). 2 ^ x) (line' l j e J)));
    }
  where
    up_to : (j : ℕ) → 2 ^ j < 2 ^ 23 → j ≤ 22
    up_to j p = le-of-lt-suc (lt_of_not-le (λ (g : 23 ≤ j). not-le_of_lt p (pow_mono g)))
      where
        le-of-lt-suc : j < 23 → j ≤ 22
        le-of-lt-suc q = omega arith

    line : (l j : ℕ) → l + suc j ≡ 32 → j ≤ 22 → j + (l - 8) ≡ 23
    line l j e h = omega arith

    line' : (l j : ℕ) → l + suc j ≡ 32 → j ≤ 22 → suc j + (l - 8) ≡ 24
    line' l j e h = omega arith
