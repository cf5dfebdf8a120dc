-- What it is for an f32 r to be less than one unit in the last place from the arc tangent of x (to the side of 0 the unit just below r, away from 0 its own), and that `atan_of x` is. The arc tangent is spoken of as an inverse, by the partial sums of sine and cosine; that it is one number is `TangentPins` of `series`.
use Rattle.std.specs.Prelude.{◌+◌, ◌-◌, ◌*◌, ◌≤◌, ◌≡◌, T, Float}
use Rattle.std.specs.Float.{nan, inf, fin, binary32}
use Rattle.std.specs.Float.Ieee.{up, down, fits}
use Rattle.series.specs.Series.{SinLe, SinGe, CosineNotNegative, CosineNotPositive}
use Rattle.scalar.specs.Root.{steps}
use Rattle.exact.specs.Unit.{ulp, unity}
use Rattle.exact_arcs.specs.Ends.{before, behind}
use Rattle.arcs.specs.Atan.{atan_of}

-- ---- atan, for a finite x: r has x's sign, behind r ≤ 2 (which is below π), and tan (before r) ≤ |x| ≤ tan (behind r) with the cosine brought to the other side
abbrev pub NearAtan : Float → Float → Type 0
NearAtan nan r = r ≡ nan
NearAtan (inf s) nan = ⊥
NearAtan (inf s) (inf t) = ⊥
-- π / 2, and r is the f32 nearest to it: the cosine is not negative half a unit before r, and not positive half a unit behind it
NearAtan (inf s) (fin t n f) =
    (s ≡ t) × (behind (fin t n f) ≤ 2 * unity)
    × CosineNotNegative (16 * steps (fin t n f) - 8 * ulp (fin t n f)) unity
    × CosineNotPositive (16 * steps (fin t n f) + 8 * ulp (fin t n f)) unity
NearAtan (fin s m e) nan = ⊥
NearAtan (fin s m e) (inf t) = ⊥
NearAtan (fin s m e) (fin t n f) =
    (s ≡ t) × (behind (fin t n f) ≤ 2 * unity) × SinLe (before (fin t n f)) unity (m * up e) (down e)
    × SinGe (behind (fin t n f)) unity (m * up e) (down e)

-- ---- the theorem, for every f32
abbrev pub AtanNear : Type 0
AtanNear = (x : Float) → T (fits binary32 x) → NearAtan x (atan_of x)
