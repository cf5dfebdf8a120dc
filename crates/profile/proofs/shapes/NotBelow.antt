-- Of D-E tail and E one is not worked out and so 0. So their maximum is a number that is not below zero: a maximum drops a NaN and takes the greater. Every further maximum is that number or one above it.
use mathlib.Core.Bool.{Bool, true, false, cond, ◌&&◌, ◌||◌, false≢true, true≢false}
use mathlib.Core.Path.{◌≡◌, refl, sym, ap, ◌∙◌}
use Prim.Native.Nat.{ℕ, ◌+◌, ◌*◌, ◌≤◌, ◌<◌}
use native.Mathlib.Nat.{zero-mul}
use native.Mathlib.Omega.{arith}
use lib.Ieee.{Float, nan, inf, fin, up, down, lt, is_nan, of_bits}
use borrow.Author.Tests.{ltb-true, ltb-false, le-ltb}
use Rattle.scalar.specs.F32.{◌-f◌, ◌≤f◌, ◌≥f◌}
use Rattle.scalar.specs.Literals.{f0}
use Rattle.scalar.specs.Scalar.{or_second, max_of}
use Rattle.scalar.proofs.Order.{not-less-than-nan}
use Rattle.profile.specs.Density.{fne_of, fnd_of, candidates_of, largest_of, density_of}
use Rattle.profile.specs.declared.shape_densities.Curves.{Curves}

-- a number, and not below zero
abbrev pub Least : Float → Type 0
Least x = (is_nan x ≡ false) × (lt x f0 ≡ false)

zero : Least f0
unfolding is_nan lt of_bits
zero = (refl, refl)

-- what is above such a number is one
above-number : (a b : Float) → lt a b ≡ true → is_nan b ≡ false
unfolding is_nan
above-number a nan e = absurd (false≢true (sym (not-less-than-nan a) ∙ e))
above-number a (inf s) e = refl
above-number a (fin s m d) e = refl

above_zero : (a b : Float) → lt a f0 ≡ false → lt a b ≡ true → lt b f0 ≡ false
unfolding lt of_bits
above_zero nan b l e = absurd (false≢true e)
above_zero (inf true) b l e = absurd (true≢false l)
above_zero (inf false) nan l e = absurd (false≢true e)
above_zero (inf false) (inf t) l e = absurd (false≢true e)
above_zero (inf false) (fin t n d) l e = absurd (false≢true e)
above_zero (fin s m f) nan l e = absurd (false≢true e)
above_zero (fin s m f) (inf true) l e = absurd (false≢true e)
above_zero (fin s m f) (inf false) l e = refl
above_zero (fin s m f) (fin false n d) l e = le-ltb (n * up d * 1) (0 * down d) (omega arith)
above_zero (fin false m f) (fin true n d) l e = absurd (false≢true e)
above_zero (fin true m f) (fin true n d) l e =
    let z : m * up f * 1 + 0 * down f ≤ 0 = ltb-false 0 (m * up f * 1 + 0 * down f) l in
    let g : n * up d * down f < m * up f * down d = ltb-true (n * up d * down f) (m * up f * down d) e in
    let v : m * up f ≡ 0 = omega arith in
    let w : m * up f * down d ≡ 0 = ap (λ (x : ℕ). x * down d) v ∙ zero-mul (down d) in
    absurd (omega arith)

max_least : (a b : Float) → Least a → Least (max_of a b)
unfolding max_of or_second
max_least a b l = go (lt a b) refl
  where
    go : (t : Bool) → lt a b ≡ t → Least (or_second (is_nan a || lt a b) a b)
    go true e = rw (l.0, e) (above-number a b e, above_zero a b l.1 e)
    go false e = rw (l.0, e) l

max-zero : (a : Float) → Least (max_of a f0)
unfolding max_of or_second
max-zero a = go (is_nan a) (lt a f0) refl refl
  where
    go : (t u : Bool) → is_nan a ≡ t → lt a f0 ≡ u → Least (or_second (is_nan a || lt a f0) a f0)
    go true u n e = rw n zero
    go false true n e = rw (n, e) zero
    go false false n e = rw (n, e) (n, e)

-- the tail's and E's values, by E's two tests
tail-or-e : (t u : Bool) (x y : Float) → Least (max_of (cond t f0 x) (cond (t && u) y f0))
tail-or-e true u x y = max_least f0 (cond u y f0) zero
tail-or-e false u x y = max-zero x

pub density-least : (c : Curves) (h : Float) → Least (density_of c h)
unfolding density_of largest_of candidates_of fnd_of fne_of
density-least c h = max_least _ _ (max_least _ _ (max_least _ _ (tail-or-e (h -f c.hex ≥f f0) (h -f c.hte ≤f f0) _ _)))
