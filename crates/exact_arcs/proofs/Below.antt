-- The end below a rounded angle s, 15/16 of the unit just below the result, is 64 p - 60 v for sizes p and v that the bounds of the tangent at a lower end take.
-- Where the 24 digits are more than 2 ^ 23, that unit is at least the one that was rounded to, `grain s`, and p is the rounded angle. Where they are 2 ^ 23 it may be half of that, but s was rounded down: p lies 15/32 of a grain higher and v is half a grain more, which is the same end.
use mathlib.Core.Path.{◌≡◌, sym, ap, ◌∙◌}
use Prim.Native.Nat.{ℕ, suc, ◌+◌, ◌-◌, ◌*◌, ◌^◌, ◌≤◌, ◌<◌}
use native.Mathlib.Nat.{le_trans, le_of_eq, lt_of_le_of_lt, lt_of_lt_of_le, not-le_of_lt, mul-le-mul, mul-le-mul_left, mul-le-mul_right, one-mul}
use native.Mathlib.Omega.{arith}
use lib.Dec.{lit<, lit≤}
use lib.Pow.{pow_pos, pow_mono, pow-add}
use lib.Count.{count_leading_zeros, leading_top}
use lib.Ieee.{size}
use lib.Ieee.Digits.{size-le}
use Rattle.cases.proofs.Cases.{split}
use Rattle.fixed.specs.Fixed.{mant}
use Rattle.fixed.proofs.Round.{Rounded, rounded, grain, place, place_is}
use Rattle.exact.proofs.Unit.{below_ge, below_half, below_le}
use Rattle.arcs.proofs.Angle.{Sizes}

pub record Below (s : ℕ) : Type 0 where
  pub p : ℕ
  pub v : ℕ
  pub sizes : Sizes s p (grain s) v
  pub is : (64 * p - 60 * v) * 2 ^ 97 ≡ 16 * (mant s * place s) - 15 * 2 ^ (size (mant s * place s - 1) - 24)

module _ (s : ℕ) (big : 2 ^ 34 ≤ s) (fits : s < 2 ^ 64) where
  abbrev lead : ℕ
  lead = count_leading_zeros 64 s

  R : Rounded s
  R = rounded s (le_trans (lit≤ tt) big) fits

  few : lead ≤ 29
  few = split lead 30 (λ h. omega arith) (λ h. absurd (not-le_of_lt R.up (le_trans (lit≤ tt) (mul-le-mul big (pow_mono h)))))

  -- no s is rounded up to the digits 2 ^ 23
  normal : 2 ^ 29 * grain s ≤ s
  normal =
      let t = leading_top 64 s (lt_of_lt_of_le (lit< tt) big) fits in
      le_trans (le_of_eq (sym (pow-add 2 29 (34 - lead)) ∙ ap (λ (x : ℕ). 2 ^ x) (go lead t.0 few t.1))) t.2
    where
      go : (l j : ℕ) → l ≤ 29 → l + suc j ≡ 64 → 29 + (34 - l) ≡ j
      go l j h e = omega arith

  -- ---- the unit just below the result: 2 ^ exp, which is `unit` in units of 2 ^ 99
  abbrev exp : ℕ
  exp = size (mant s * place s - 1) - 24

  exp_low : 99 ≤ exp
  exp_low = split exp 99 (λ h. absurd (not-le_of_lt {n = 2 ^ 104} {m = 2 * 2 ^ 98} (lit< tt) (le_trans (pow_mono (high lead few)) (le_trans (below_half (mant s) (133 - lead) R.least) (mul-le-mul_left 2 (pow_mono (less exp h))))))) (λ h. h)
    where
      high : (l : ℕ) → l ≤ 29 → 104 ≤ 133 - l
      high l h = omega arith

      less : (z : ℕ) → z < 99 → z ≤ 98
      less z h = omega arith

  exp_high : exp ≤ 133 - lead
  exp_high = cut (size (mant s * place s - 1)) (133 - lead) (size-le (mant s * place s - 1) (24 + (133 - lead)) (go (mant s * place s) (2 ^ (24 + (133 - lead))) (pow_pos (24 + (133 - lead))) (le_trans (mul-le-mul_right (place s) R.most) (le_of_eq (sym (pow-add 2 24 (133 - lead)))))))
    where
      cut : (x e : ℕ) → x ≤ 24 + e → x - 24 ≤ e
      cut x e h = omega arith

      go : (x y : ℕ) → 0 < y → x ≤ y → x - 1 < y
      go x y h k = omega arith

  abbrev unit : ℕ
  unit = 2 ^ (exp - 99)

  unit_most : unit ≤ grain s
  unit_most = pow_mono (go lead exp few exp_high)
    where
      go : (l z : ℕ) → l ≤ 29 → z ≤ 133 - l → z - 99 ≤ 34 - l
      go l z h k = omega arith

  unit_is : 2 ^ exp ≡ 2 ^ 99 * unit
  unit_is = ap (λ (x : ℕ). 2 ^ x) (go exp exp_low) ∙ pow-add 2 99 (exp - 99)
    where
      go : (z : ℕ) → 99 ≤ z → z ≡ 99 + (z - 99)
      go z h = omega arith

  least : (k : ℕ) → place s ≤ k * 2 ^ exp → grain s ≤ k * unit
  least k h = go (grain s) unit (place s) (2 ^ exp) (place_is s R.few) unit_is h
    where
      go : (o w P U : ℕ) → P ≡ 2 ^ 99 * o → U ≡ 2 ^ 99 * w → P ≤ k * U → o ≤ k * w
      go o w P U e f g = omega (arith, ap (λ (x : ℕ). k * x) f)

  -- ---- p moved up by 15 h and v by 16 h: the same end
  moved : (h : ℕ) → Sizes s (mant s * grain s + 15 * h) (grain s) (unit + 16 * h) → Below s
  moved h Z = record { p = mant s * grain s + 15 * h; v = unit + 16 * h; sizes = Z; is = go (mant s) (grain s) unit (place s) (2 ^ exp) (place_is s R.few) unit_is }
    where
      go : (m o w P U : ℕ) → P ≡ 2 ^ 99 * o → U ≡ 2 ^ 99 * w → (64 * (m * o + 15 * h) - 60 * (w + 16 * h)) * 2 ^ 97 ≡ 16 * (m * P) - 15 * U
      go m o w P U e f = omega (arith, ap (λ (x : ℕ). m * x) e)

  -- the digits above 2 ^ 23
  more : 2 ^ 23 < mant s → Below s
  more k = moved 0 (go (mant s * grain s) (grain s) unit unit_most (least 1 (le_trans (below_ge (mant s) (133 - lead) k) (le_of_eq (sym (one-mul (2 ^ exp)))))) R.over R.under (mul-le-mul_right (grain s) R.most) (mul-le-mul_right (grain s) R.least))
    where
      go : (p o w : ℕ) → w ≤ o → o ≤ 1 * w → 64 * p ≤ s + 32 * o → s ≤ 64 * p + 32 * o → p ≤ 2 ^ 24 * o → 2 ^ 23 * o ≤ p → Sizes s (p + 15 * 0) o (w + 16 * 0)
      go p o w a b c d e f = record { s-over = omega arith; s-under = omega arith; p-most = omega arith; p-least = omega arith; o-v = omega arith; v-o = omega arith }

  -- the digits 2 ^ 23
  just : mant s ≤ 2 ^ 23 → Below s
  just k = moved (2 ^ (29 - lead)) (go (mant s * grain s) (grain s) unit (2 ^ (29 - lead)) unit_most (least 2 (below_half (mant s) (133 - lead) R.least)) (ap (λ (x : ℕ). 2 ^ x) (five lead few) ∙ pow-add 2 5 (29 - lead)) normal R.under (mul-le-mul_right (grain s) k) (mul-le-mul_right (grain s) R.least))
    where
      five : (l : ℕ) → l ≤ 29 → 34 - l ≡ 5 + (29 - l)
      five l h = omega arith

      go : (p o w h : ℕ) → w ≤ o → o ≤ 2 * w → o ≡ 32 * h → 2 ^ 29 * o ≤ s → s ≤ 64 * p + 32 * o → p ≤ 2 ^ 23 * o → 2 ^ 23 * o ≤ p → Sizes s (p + 15 * h) o (w + 16 * h)
      go p o w h a b e c d f g = record { s-over = omega arith; s-under = omega arith; p-most = omega arith; p-least = omega arith; o-v = omega arith; v-o = omega arith }

  pub below : Below s
  below = split (2 ^ 23) (mant s) more just

-- ---- below 2 ^ -12: a number's unit, that of the number before it, and the room that both have
pub small_unit : (v : ℕ) → v ≤ 2 ^ 137 → 2 ^ (size v - 24) ≤ 2 ^ 137
small_unit v h = pow_mono {i = size v - 24} {j = 137} (go (size v) (size-le v 138 (lt_of_le_of_lt h (lit< tt))))
  where
    go : (z : ℕ) → z ≤ 138 → z - 24 ≤ 137
    go z k = omega arith

pub small_below : (v : ℕ) → v ≤ 2 ^ 137 → 2 ^ (size (v - 1) - 24) ≤ 2 ^ 137
small_below v h = le_trans (below_le v) (small_unit v h)

pub small_room : {v : ℕ} → v ≤ 2 ^ 137 → v * 2 ^ 16 ≤ 16 * 2 ^ 149
small_room h = le_trans (mul-le-mul_right (2 ^ 16) h) (lit≤ tt)
