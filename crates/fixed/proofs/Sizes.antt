-- Patterns without a sign rise with the size: `Size a v` says that the finite pattern a stands for v units of 2 ^ -149. A larger exponent field wins over any significand.
use mathlib.Core.Path.{◌≡◌, refl, sym, ◌∙◌, subst, subst₂}
use mathlib.Core.Logic.{◌⊎◌, inl, inr}
use Prim.Native.Nat.{ℕ, ◌+◌, ◌-◌, ◌*◌, ◌/◌, ◌%◌, ◌^◌, ◌≤◌, ◌<◌}
use native.Mathlib.Nat.{le_antisymm, le_trans, le_of_eq, le_of_lt, lt_of_lt_of_le, mul-one, mul-le-mul, mul-le-mul_left, mul-lt-mul_of_pos_right}
use native.Mathlib.Omega.{arith}
use lib.Dec.{leb}
use lib.Pow.{pow_pos, pow_mono, pow-add}
use lib.Ieee.{binary32, of_bits}
use lib.Ieee.Exact.{HasValue}
use Rattle.cases.proofs.Cases.{split}
use Rattle.fixed.specs.Fixed.{digits}
use Rattle.fixed.proofs.Values.{normal-value, subnormal}

abbrev pub Size : ℕ → ℕ → Type 0
Size a v = ((a < 2 ^ 23) × (v ≡ a)) ⊎ ((2 ^ 23 ≤ a) × (v ≡ digits a * 2 ^ (a / 2 ^ 23 - 1)))

-- every finite pattern has one
pub finite-value : (b : ℕ) → b % 2 ^ 31 < 0x7f80_0000 → (v : ℕ) × HasValue (of_bits binary32 b) (leb (2 ^ 31) b) v (2 ^ 149) × Size (b % 2 ^ 31) v
finite-value b h =
    split (b % 2 ^ 31) (2 ^ 23)
    (λ l. (b % 2 ^ 23 * 1, subnormal b l, inl (l, omega arith)))
    (λ l. (digits (b % 2 ^ 31) * 2 ^ (b % 2 ^ 31 / 2 ^ 23 - 1), normal-value b l h, inr (l, refl)))

pub dig-low : (a : ℕ) → 2 ^ 23 ≤ digits a
dig-low a = omega arith

pub dig-high : (a : ℕ) → digits a < 2 ^ 24
dig-high a = omega arith

at_least : (m e : ℕ) → m ≤ m * 2 ^ e
at_least m e = le_trans (le_of_eq (sym (mul-one m))) (mul-le-mul_left m (pow_pos e))

-- two significands d and d' with exponents e below e'
apart : (d d' e e' : ℕ) → d < 2 ^ 24 → 2 ^ 23 ≤ d' → 1 ≤ e → e < e' → d * 2 ^ (e - 1) < d' * 2 ^ (e' - 1)
apart d d' e e' h k l g =
    lt_of_lt_of_le (mul-lt-mul_of_pos_right h (pow_pos (e - 1)))
    (le_trans (le_of_eq (step (2 ^ (e - 1)) (2 ^ (1 + (e - 1))) (pow-add 2 1 (e - 1)))) (mul-le-mul k (pow_mono {i = 1 + (e - 1)} {j = e' - 1} (omega arith))))
  where
    step : (x y : ℕ) → y ≡ 2 ^ 1 * x → 2 ^ 24 * x ≡ 2 ^ 23 * y
    step x y e = omega arith

pub size-lt : (a a' v v' : ℕ) → Size a v → Size a' v' → a < a' → v < v'
size-lt a a' v v' (inl (l, e)) (inl (l', e')) h = omega arith
size-lt a a' v v' (inl (l, e)) (inr (l', e')) h = let g = le_trans (dig-low a') (at_least (digits a') (a' / 2 ^ 23 - 1)) in omega (arith, l, e, e', g)
size-lt a a' v v' (inr (l, e)) (inl (l', e')) h = absurd (no a a' l l' h)
  where
    no : (a a' : ℕ) → 2 ^ 23 ≤ a → a' < 2 ^ 23 → a < a' → ⊥
    no a a' x y z = omega arith
size-lt a a' v v' (inr (l, e)) (inr (l', e')) h = subst₂ (λ (x y : ℕ). x < y) (sym e) (sym e') (split (a / 2 ^ 23) (a' / 2 ^ 23) (λ g. apart (digits a) (digits a') (a / 2 ^ 23) (a' / 2 ^ 23) (dig-high a) (dig-low a') (omega arith) g) (λ g. level (omega arith)))
  where
    level : a / 2 ^ 23 ≡ a' / 2 ^ 23 → digits a * 2 ^ (a / 2 ^ 23 - 1) < digits a' * 2 ^ (a' / 2 ^ 23 - 1)
    level g = subst (λ (x : ℕ). digits a * 2 ^ (a / 2 ^ 23 - 1) < digits a' * 2 ^ (x - 1)) g (mul-lt-mul_of_pos_right {m = digits a} {n = digits a'} (omega arith) (pow_pos (a / 2 ^ 23 - 1)))

pub size_same : (a v v' : ℕ) → Size a v → Size a v' → v ≡ v'
size_same a v v' (inl (l, e)) (inl (l', e')) = e ∙ sym e'
size_same a v v' (inl (l, e)) (inr (l', e')) = absurd (no a l l')
  where
    no : (a : ℕ) → a < 2 ^ 23 → 2 ^ 23 ≤ a → ⊥
    no a x y = omega arith
size_same a v v' (inr (l, e)) (inl (l', e')) = absurd (no a l' l)
  where
    no : (a : ℕ) → a < 2 ^ 23 → 2 ^ 23 ≤ a → ⊥
    no a x y = omega arith
size_same a v v' (inr (l, e)) (inr (l', e')) = e ∙ sym e'

pub size-le : (a a' v v' : ℕ) → Size a v → Size a' v' → a ≤ a' → v ≤ v'
size-le a a' v v' s s' h = split a a' (λ l. le_of_lt (size-lt a a' v v' s s' l)) (λ l. le_of_eq (size_same a v v' s (subst (λ (x : ℕ). Size x v') (le_antisymm l h) s')))
