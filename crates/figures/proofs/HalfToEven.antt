-- `nearest` is within half, even at the half, and the only such number; so it depends on the fraction alone. Assumes nothing.
use Prim.Native.Nat.{ℕ, zero, suc, ◌+◌, ◌-◌, ◌*◌, ◌/◌, ◌%◌, ◌≤◌, ◌<◌}
use mathlib.Core.Path.{◌≡◌, refl, sym, ap, ap₂, ◌∙◌}
use mathlib.Core.Bool.{Bool, true, false, cond}
use native.Mathlib.Nat.{mod-lt, div-add-mod', mul_right_comm, mul-le-mul_right, le_of_mul-le-mul_right, le_antisymm, eq_of_mul-eq-mul_right, mul-le-mul_left, div-lt_iff_lt-mul}
use native.Mathlib.Omega.{arith}
use borrow.Author.Tests.{ltb-true, ltb-false, lt-ltb, le-ltb}
use lib.Dec.{ltb}
use Rattle.rounding.specs.TiesToEven.{gap}
use Rattle.rounding.proofs.Units.{gap-mul}
use Rattle.figures.specs.Nearest.{nearest, HalfToEven, NearestRule}

-- by the quotient and the rest
abbrev chosen : Bool → Bool → ℕ → ℕ
chosen under over q = cond under q (cond over (q + 1) (q + q % 2))

by : (under over : Bool) (n d q rest : ℕ) → q * d + rest ≡ n → rest < d → ltb (2 * rest) d ≡ under → ltb d (2 * rest) ≡ over → HalfToEven n d (chosen under over q)
by true over n d q rest e l a b =
    let h = ltb-true (2 * rest) d a in
    record { within = omega arith; even = λ t. absurd (omega arith) }
by false true n d q rest e l a b =
    let h = ltb-true d (2 * rest) b in
    record { within = omega arith; even = λ t. absurd (omega arith) }
by false false n d q rest e l a b =
    at (q % 2) refl (omega arith) (let h = ltb-false (2 * rest) d a in let k = ltb-false d (2 * rest) b in omega arith)
  where
    at : (p : ℕ) → q % 2 ≡ p → p < 2 → 2 * rest ≡ d → HalfToEven n d (q + p)
    at zero i s h = record { within = omega arith; even = λ t. omega arith }
    at (suc zero) i s h = record { within = omega arith; even = λ t. omega arith }
    at (suc (suc p)) i s h = absurd (omega arith)

pub nearest-is : (n d : ℕ) → 0 < d → HalfToEven n d (nearest n d)
unfolding nearest
nearest-is n d p = by (ltb (2 * (n % d)) d) (ltb d (2 * (n % d))) n d (n / d) (n % d) (div-add-mod' n d) (mod-lt n p) refl refl

-- two of them would be one apart, each half away, so both even
record Halves (x y n d : ℕ) : Type 0 where
  lower : 2 * gap x n ≡ d
  upper : 2 * gap y n ≡ d
  step : y ≤ x + d

halves : (x y n d : ℕ) → 2 * gap x n ≤ d → 2 * gap y n ≤ d → x + d ≤ y → Halves x y n d
halves x y n d a b l = record { lower = omega arith; upper = omega arith; step = omega arith }

apart : (n d r s : ℕ) → 0 < d → HalfToEven n d r → HalfToEven n d s → r < s → ⊥
apart n d r s p a b l = go (halves (r * d) (s * d) n d a.within b.within (above (mul-le-mul_right {m = r + 1} {n = s} d (omega arith))))
  where
    above : (r + 1) * d ≤ s * d → r * d + d ≤ s * d
    above h = omega arith

    next : s * d ≤ r * d + d → s * d ≤ (r + 1) * d
    next h = omega arith

    odd : r % 2 ≡ 0 → s % 2 ≡ 0 → s ≤ r + 1 → ⊥
    odd g h t = omega arith

    go : Halves (r * d) (s * d) n d → ⊥
    go h = odd (a.even h.lower) (b.even h.upper) (le_of_mul-le-mul_right (next h.step) p)

pub only-nearest : (n d r : ℕ) → 0 < d → HalfToEven n d r → r ≡ nearest n d
only-nearest n d r p h = go (ltb r (nearest n d)) (ltb (nearest n d) r) refl refl
  where
    go : (b c : Bool) → ltb r (nearest n d) ≡ b → ltb (nearest n d) r ≡ c → r ≡ nearest n d
    go true c e f = absurd (apart n d r (nearest n d) p h (nearest-is n d p) (ltb-true r (nearest n d) e))
    go false true e f = absurd (apart n d (nearest n d) r p (nearest-is n d p) h (ltb-true (nearest n d) r f))
    go false false e f = le_antisymm (ltb-false (nearest n d) r f) (ltb-false r (nearest n d) e)

pub nearest-rule : NearestRule
nearest-rule = record { is = nearest-is; only = only-nearest }

-- the same fraction has the same nearest number
-- by the sizes of the two gaps
scaled-le : (g g' d d' : ℕ) → 0 < d → g * d' ≡ g' * d → 2 * g ≤ d → 2 * g' ≤ d'
scaled-le g g' d d' p e h = le_of_mul-le-mul_right (over (mul-le-mul_right d' h)) p
  where
    over : 2 * g * d' ≤ d * d' → 2 * g' * d ≤ d' * d
    over k = omega arith

scaled-eq : (g g' d d' : ℕ) → 0 < d → g * d' ≡ g' * d → 2 * g ≡ d → 2 * g' ≡ d'
scaled-eq g g' d d' p e h = eq_of_mul-eq-mul_right d p (2 * g') d' (over (ap (λ (x : ℕ). x * d') h))
  where
    over : 2 * g * d' ≡ d * d' → 2 * g' * d ≡ d' * d
    over k = omega arith

pub nearest-same : (n d n' d' : ℕ) → 0 < d → 0 < d' → n * d' ≡ n' * d → nearest n d ≡ nearest n' d'
nearest-same n d n' d' p q e = only-nearest n' d' (nearest n d) q (record { within = scaled-le (gap (r * d) n) (gap (r * d') n') d d' p same (nearest-is n d p).within; even = λ t. (nearest-is n d p).even (back t) })
  where
    r : ℕ
    r = nearest n d

    -- both gaps in units of d * d'
    same : gap (r * d) n * d' ≡ gap (r * d') n' * d
    same = sym (gap-mul (r * d) n d') ∙ ap₂ (λ (x y : ℕ). gap x y) (mul_right_comm r d d') e ∙ gap-mul (r * d') n' d

    back : 2 * gap (r * d') n' ≡ d' → 2 * gap (r * d) n ≡ d
    back h = scaled-eq (gap (r * d') n') (gap (r * d) n) d' d q (sym same) h

-- ---- by what is left over, as the code tests it

pub under : (n d : ℕ) → n % d < d - n % d → n / d ≡ nearest n d
unfolding nearest
under n d h = rw (lt-ltb (2 * (n % d)) d (twice (n % d) h))
  where
    twice : (r : ℕ) → r < d - r → 2 * r < d
    twice r h = omega arith

pub over : (n d : ℕ) → d - n % d < n % d → n / d + 1 ≡ nearest n d
unfolding nearest
over n d h = rw (le-ltb (2 * (n % d)) d (twice (n % d) h).0, lt-ltb d (2 * (n % d)) (twice (n % d) h).1)
  where
    twice : (r : ℕ) → d - r < r → (d ≤ 2 * r) × (d < 2 * r)
    twice r h = (omega arith, omega arith)

pub half : (n d : ℕ) → 0 < d → d - n % d ≤ n % d → n % d ≤ d - n % d → n / d + n / d % 2 ≡ nearest n d
unfolding nearest
half n d p h k = rw (le-ltb (2 * (n % d)) d (twice (n % d) (mod-lt n p) h k).0, le-ltb d (2 * (n % d)) (twice (n % d) (mod-lt n p) h k).1)
  where
    twice : (r : ℕ) → r < d → d - r ≤ r → r ≤ d - r → (d ≤ 2 * r) × (2 * r ≤ d)
    twice r l h k = (omega arith, omega arith)

-- something is left over only where d is 2 or more, so one more fits
pub room : (n d m : ℕ) → 0 < d → n < 2 * m → d - n % d ≤ n % d → n / d < m
room n d m p l h = (div-lt_iff_lt-mul p).1 (up (two (n % d) (mod-lt n p) h))
  where
    two : (r : ℕ) → r < d → d - r ≤ r → 2 ≤ d
    two r s h = omega arith

    up : 2 ≤ d → n < m * d
    up t = let k = mul-le-mul_left m t in omega arith

-- a fraction below a half, and a whole number
pub below_half : (n d : ℕ) → 2 * n < d → nearest n d ≡ 0
below_half n d h = sym (only-nearest n d 0 (omega arith) (record { within = omega arith; even = λ t. absurd (omega arith) }))

pub whole : (r d : ℕ) → 0 < d → nearest (r * d) d ≡ r
whole r d p = sym (only-nearest (r * d) d r p (record { within = omega arith; even = λ t. absurd (omega arith) }))
