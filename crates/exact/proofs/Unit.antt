-- The unit just below m * 2 ^ e is 2 ^ e at least, or half of that where m is 2 ^ 23; and it is never larger than the unit of the number itself.
use mathlib.Core.Path.{◌≡◌, ap, ◌∙◌}
use Prim.Native.Nat.{ℕ, zero, suc, ◌+◌, ◌-◌, ◌*◌, ◌^◌, ◌≤◌, ◌<◌}
use native.Mathlib.Nat.{le_trans, le_of_eq, lt_of_not-le, lt_of_le_of_lt, not-le_of_lt, mul-le-mul_right}
use native.Mathlib.Omega.{arith}
use lib.Pow.{pow_pos, pow_mono, pow-add}
use lib.Ieee.{size}
use lib.Ieee.Digits.{size-lt, size-le}

-- a number from 2 ^ j up has more than j digits
digits_above : (v j : ℕ) → 2 ^ j ≤ v → j < size v
digits_above v j h = lt_of_not-le (λ (g : size v ≤ j). not-le_of_lt (size-lt v) (le_trans (pow_mono g) h))

-- ---- the unit just below m * 2 ^ e
pub below_ge : (m e : ℕ) → 2 ^ 23 < m → 2 ^ e ≤ 2 ^ (size (m * 2 ^ e - 1) - 24)
below_ge m e h = pow_mono (go (size (m * 2 ^ e - 1)) (digits_above (m * 2 ^ e - 1) (23 + e) (le_trans (le_of_eq (pow-add 2 23 e)) (less (2 ^ e) (pow_pos e)))))
  where
    go : (z : ℕ) → 23 + e < z → e ≤ z - 24
    go z k = omega arith

    less : (w : ℕ) → 0 < w → 2 ^ 23 * w ≤ m * w - 1
    less w k = omega (arith, mul-le-mul_right w h)

pub below_half : (m e : ℕ) → 2 ^ 23 ≤ m → 2 ^ e ≤ 2 * 2 ^ (size (m * 2 ^ e - 1) - 24)
below_half m zero h = go (2 ^ (size (m * 2 ^ 0 - 1) - 24)) (pow_pos (size (m * 2 ^ 0 - 1) - 24))
  where
    go : (z : ℕ) → 0 < z → 1 ≤ 2 * z
    go z k = omega arith
below_half m (suc e) h = le_trans (pow_mono (go (size (m * 2 ^ suc e - 1)) (digits_above (m * 2 ^ suc e - 1) (23 + e) (le_trans (le_of_eq (pow-add 2 23 e)) less)))) (le_of_eq (pow-add 2 1 (size (m * 2 ^ suc e - 1) - 24)))
  where
    go : (z : ℕ) → 23 + e < z → suc e ≤ 1 + (z - 24)
    go z k = omega arith

    one_more : (x : ℕ) → suc x ≡ 1 + x
    one_more x = omega arith

    twice : (w x : ℕ) → 0 < w → x ≡ 2 ^ 1 * w → 2 ^ 23 * w ≤ m * x - 1
    twice w x k g = omega (arith, ap (λ (y : ℕ). m * y) g, mul-le-mul_right w h)

    less : 2 ^ 23 * 2 ^ e ≤ m * 2 ^ suc e - 1
    less = twice (2 ^ e) (2 ^ suc e) (pow_pos e) (ap (λ (x : ℕ). 2 ^ x) (one_more e) ∙ pow-add 2 1 e)

-- v is at most 2 ^ 24 of the units just below it
pub below_ulps : (v : ℕ) → v ≤ 2 ^ (size (v - 1) - 24) * 2 ^ 24
below_ulps v = le_trans (go v (2 ^ size (v - 1)) (size-lt (v - 1))) (le_trans (pow_mono (more (size (v - 1)))) (le_of_eq (pow-add 2 (size (v - 1) - 24) 24)))
  where
    go : (v w : ℕ) → v - 1 < w → v ≤ w
    go v w h = omega arith

    more : (z : ℕ) → z ≤ z - 24 + 24
    more z = omega arith

-- the unit just below is never the larger
pub below_le : (v : ℕ) → 2 ^ (size (v - 1) - 24) ≤ 2 ^ (size v - 24)
below_le v = pow_mono (less (size (v - 1)) (size v) (size-le (v - 1) (size v) (lt_of_le_of_lt (omega arith) (size-lt v))))
  where
    less : (a b : ℕ) → a ≤ b → a - 24 ≤ b - 24
    less a b h = omega arith
