-- What it is for an f32 r to be less than one unit in the last place from the arc sine of x (to the side of 0 the unit just below r, away from 0 its own), and that `asin_of x` is. The arc sine is spoken of as an inverse, by the partial sums of sine and cosine; that it is one number is `SinePins` of `series`.
use Rattle.std.specs.Prelude.{◌*◌, ◌≤◌, ◌<◌, ◌≡◌, ◌⊎◌, T, Float}
use Rattle.std.specs.Float.{nan, inf, fin, binary32}
use Rattle.std.specs.Float.Ieee.{up, down, fits}
use Rattle.series.specs.Series.{SineAtMost, SineAtLeast, CosineNotNegative, CosineNotPositive}
use Rattle.exact.specs.Unit.{unity}
use Rattle.exact_arcs.specs.Ends.{before, behind}
use Rattle.arcs.specs.Asin.{asin_of}

-- ---- asin, for |x| ≤ 1, with y = before r and z = behind r: y is at most π / 2 (cos y ≥ 0) with sin y ≤ |x|; z ≤ 2, and |x| ≤ sin z or z is past π / 2 (cos z ≤ 0)
abbrev pub NearAsin : Float → Float → Type 0
NearAsin nan r = r ≡ nan
NearAsin (inf s) r = r ≡ nan
NearAsin (fin s m e) nan = down e < m * up e
NearAsin (fin s m e) (inf t) = ⊥
NearAsin (fin s m e) (fin t n f) =
    (s ≡ t) × (m * up e ≤ down e) × (behind (fin t n f) ≤ 2 * unity)
    × CosineNotNegative (before (fin t n f)) unity
    × SineAtMost (before (fin t n f)) unity (m * up e) (down e)
    × (SineAtLeast (behind (fin t n f)) unity (m * up e) (down e) ⊎ CosineNotPositive (behind (fin t n f)) unity)

-- ---- the theorem, for every f32
abbrev pub AsinNear : Type 0
AsinNear = (x : Float) → T (fits binary32 x) → NearAsin x (asin_of x)
