-- The paper's special values of sine and cosine, and their domain: outside -4 to 4 both are NaN.
use Rattle.std.specs.Prelude.{◌≡◌, Bool, true, false, ◌||◌, T, pos, Float}
use Rattle.std.specs.Float.{nan, inf, fin, binary32}
use Rattle.std.specs.Float.Ieee.{fits}
use Rattle.scalar.specs.F32.{◌<f◌, ◌>f◌, negf}
use Rattle.scalar.specs.Literals.{f4}
use Rattle.waves.specs.SinCos.{sin_of, cos_of}

-- `fin s 0 (pos 0)` is the zero with the sign s
pub record WaveValues : Type 0 where
  pub sin-zero : (s : Bool) → sin_of (fin s 0 (pos 0)) ≡ fin s 0 (pos 0)
  pub sin-infinity : (s : Bool) → sin_of (inf s) ≡ nan
  pub sin-nan : sin_of nan ≡ nan
  pub sin-outside : (x : Float) → T (fits binary32 x) → ((x <f negf f4) || (x >f f4)) ≡ true → sin_of x ≡ nan
  pub cos-zero : (s : Bool) → cos_of (fin s 0 (pos 0)) ≡ fin false 1 (pos 0)
  pub cos-infinity : (s : Bool) → cos_of (inf s) ≡ nan
  pub cos-nan : cos_of nan ≡ nan
  pub cos-outside : (x : Float) → T (fits binary32 x) → ((x <f negf f4) || (x >f f4)) ≡ true → cos_of x ≡ nan
