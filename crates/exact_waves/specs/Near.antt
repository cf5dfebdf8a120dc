-- What it is for an f32 r to be less than one unit in the last place from the sine or the cosine of x, and that `sin_of x` and `cos_of x` are.
-- No real numbers are here: the exact value is spoken of by the partial sums of its power series (crate `series`), which have whole numerators and denominators.
-- Said is "at most 15/16 of a unit" of partial sums, so that less than one unit follows for the limit.
-- Away from zero the unit is r's ulp; towards zero it is that of the floats just below |r| (`ulp_below`), half of r's ulp where |r| is a power of two above 2 ^ -126.
use Rattle.std.specs.Prelude.{ℕ, ◌*◌, ◌≤◌, ◌<◌, ◌≡◌, cond, T, Float}
use Rattle.std.specs.Bool.{beq}
use Rattle.std.specs.Float.{nan, inf, fin, binary32}
use Rattle.std.specs.Float.Ieee.{up, down, fits}
use Rattle.series.specs.Series.{full, num, class}
use Rattle.scalar.specs.Root.{steps}
use Rattle.exact.specs.Unit.{ulp, ulp_below, unity}
use Rattle.exact.specs.Between.{Between}
use Rattle.waves.specs.SinCos.{sin_of, cos_of}

-- ---- sin
-- From the one up to number 36 on, every partial sum of the sine's series at |x| is at most 15/16 of `ulp_below r` nearer to zero than r and at most 15/16 of `ulp r` farther from it, r's sign turned where x is negative.
-- So for their limit, the sine, |r| - ulp_below r < |sin x| < |r| + ulp r, with r's sign.
abbrev pub NearSin : Float → Float → Type 0
NearSin nan r = r ≡ nan
NearSin (inf s) r = r ≡ nan
-- NaN only outside -4 to 4
NearSin (fin s m e) nan = 4 * down e < m * up e
NearSin (fin s m e) (inf t) = ⊥
-- the number, the unit below it and the unit above it: towards zero is below where the signs agree, else above
NearSin (fin s m e) (fin t n f) =
    (k : ℕ) → 36 ≤ k
    → Between unity (16 * cond (beq s t) (steps (fin t n f)) 0) (16 * cond (beq s t) 0 (steps (fin t n f)))
    (15 * cond (beq s t) (ulp_below (fin t n f)) (ulp (fin t n f))) (15 * cond (beq s t) (ulp (fin t n f)) (ulp_below (fin t n f)))
    (num (class 1) (m * up e) (down e) k) (num (class 3) (m * up e) (down e) k) (full (down e) k)

-- ---- cos: even, so x's sign is not looked at
abbrev pub NearCos : Float → Float → Type 0
NearCos nan r = r ≡ nan
NearCos (inf s) r = r ≡ nan
NearCos (fin s m e) nan = 4 * down e < m * up e
NearCos (fin s m e) (inf t) = ⊥
-- towards zero is above where r is negative, else below
NearCos (fin s m e) (fin t n f) =
    (k : ℕ) → 36 ≤ k
    → Between unity (16 * cond t 0 (steps (fin t n f))) (16 * cond t (steps (fin t n f)) 0)
    (15 * cond t (ulp (fin t n f)) (ulp_below (fin t n f))) (15 * cond t (ulp_below (fin t n f)) (ulp (fin t n f)))
    (num (class 0) (m * up e) (down e) k) (num (class 2) (m * up e) (down e) k) (full (down e) k)

-- ---- the theorems, for every f32; outside -4 to 4 both are NaN (`sin-outside`, `cos-outside` of `waves`)
abbrev pub SinNear : Type 0
SinNear = (x : Float) → T (fits binary32 x) → NearSin x (sin_of x)

abbrev pub CosNear : Type 0
CosNear = (x : Float) → T (fits binary32 x) → NearCos x (cos_of x)
