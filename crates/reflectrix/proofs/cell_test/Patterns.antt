-- Floats that are not below zero are in order as their patterns are.
use mathlib.Core.Path.{◌≡◌, sym, ap, ◌∙◌, subst}
use mathlib.Core.Logic.{inl, inr}
use mathlib.Core.Bool.{false}
use Prim.Native.Nat.{ℕ, ◌+◌, ◌-◌, ◌*◌, ◌/◌, ◌^◌, ◌≤◌, ◌<◌}
use native.Mathlib.Nat.{le_trans, le_refl, le_antisymm, lt_of_le_of_lt, eq-or-lt_of_le, mul-le-mul_right, le-div_iff_mul-le}
use native.Mathlib.Omega.{arith}
use lib.Dec.{T}
use lib.Pow.{pow_pos, pow-add}
use lib.Ieee.{Float, binary32, size, to_bits, of_bits, le, fits}
use lib.Ieee.Bits.{of_bits-to_bits}
use lib.Ieee.Digits.{size-lt, size-le, size_reaches}
use lib.Ieee.Fits.{kept-lt}
use lib.Ieee.Nearest.{div_mono}
use lib.Ieee.Order.{le_of_values}
use Rattle.std.proofs.lemmas.Bool.{cases_lt}
use Rattle.rounding.proofs.Units.{pattern_of, value-bits}
use Rattle.reflectrix.proofs.cell_test.Steps.{L, Is}

-- of two numbers the greater has no smaller pattern
pattern_mono : (X Y : ℕ) → X ≤ Y → pattern_of binary32 false X ≤ pattern_of binary32 false Y
pattern_mono X Y h =
    elim (eq-or-lt_of_le (fewer (size X) (size Y) (size-le X (size Y) (lt_of_le_of_lt h (size-lt Y))))) [
      | inl e ↦ subst (λ (j : ℕ). pattern_of binary32 false X ≤ 0 + j * 2 ^ 23 + Y / 2 ^ j) e (alike (size X - 24) (X / 2 ^ (size X - 24)) (Y / 2 ^ (size X - 24)) (div_mono X (2 ^ (size X - 24)) Y (2 ^ (size X - 24)) (pow_pos (size X - 24)) (pow_pos (size X - 24)) (mul-le-mul_right (2 ^ (size X - 24)) h)))
      | inr l ↦ apart (size X - 24) (size Y - 24) (X / 2 ^ (size X - 24)) (Y / 2 ^ (size Y - 24)) l (kept-lt 24 X) (leading Y (size Y - 24) (long (size X - 24) (size Y) l))
    ]
  where
    fewer : (a b : ℕ) → a ≤ b → a - 24 ≤ b - 24
    fewer a b h = omega arith

    long : (k z : ℕ) → k < z - 24 → 23 + (z - 24) < z
    long k z h = omega arith

    alike : (k a b : ℕ) → a ≤ b → 0 + k * 2 ^ 23 + a ≤ 0 + k * 2 ^ 23 + b
    alike k a b h = omega arith

    apart : (k l a b : ℕ) → k < l → a < 2 ^ 24 → 2 ^ 23 ≤ b → 0 + k * 2 ^ 23 + a ≤ 0 + l * 2 ^ 23 + b
    apart k l a b h i j = omega arith

    leading : (Y l : ℕ) → 23 + l < size Y → 2 ^ 23 ≤ Y / 2 ^ l
    leading Y l h = (le-div_iff_mul-le (pow_pos l)).1 (subst (λ (x : ℕ). x ≤ Y) (pow-add 2 23 l) (size_reaches Y (23 + l) h))

-- no number's pattern is the greatest of 32 digits
pub pattern-lt : (x : Float) (X : ℕ) → Is x X → X < 2 ^ 302 → to_bits binary32 x < 2 ^ 32 - 1
pattern-lt x X h l = subst (λ (b : ℕ). b < 2 ^ 32 - 1) (sym (value-bits binary32 x false X h)) (small (size X) (X / 2 ^ (size X - 24)) (size-le X 302 l) (kept-lt 24 X))
  where
    small : (z a : ℕ) → z ≤ 302 → a < 2 ^ 24 → 0 + (z - 24) * 2 ^ 23 + a < 2 ^ 32 - 1
    small z a h i = omega arith

pub patterns-le : (x y : Float) (X Y : ℕ) → T (fits binary32 x) → T (fits binary32 y) → Is x X → Is y Y → to_bits binary32 x ≤ to_bits binary32 y → T (le x y)
patterns-le x y X Y f g h k l =
    elim (cases_lt Y X) [
      | inl a ↦
          let b : to_bits binary32 y ≤ to_bits binary32 x = rw (value-bits binary32 x false X h, value-bits binary32 y false Y k) (pattern_mono Y X (native.Mathlib.Nat.le_of_lt a)) in
          let e : x ≡ y = sym (of_bits-to_bits binary32 x f) ∙ ap (of_bits binary32) (le_antisymm l b) ∙ of_bits-to_bits binary32 y g in
          subst (λ (z : Float). T (le x z)) e (at_most x x X X h h (le_refl X))
      | inr a ↦ at_most x y X Y h k a
    ]
  where
    at_most : (x y : Float) (X Y : ℕ) → Is x X → Is y Y → X ≤ Y → T (le x y)
    at_most x y X Y h k a = le_of_values x y X L Y L (pow_pos 149) (pow_pos 149) h k (mul-le-mul_right L a)
