-- Sine and cosine with a refusal: outside -4 to 4 an angle is turned away (number 13); a NaN is not outside and gives NaN. Definitions only.
use Rattle.std.specs.Prelude.{Bool, true, false, Result, Ok, Err, Float}
use Rattle.scalar.specs.F32.{◌<f◌, ◌>f◌, negf}
use Rattle.scalar.specs.Literals.{f4}
use Rattle.refusal.specs.declared.Refusal.{Refusal}
use Rattle.refusal.specs.declared.Refusal.TheVariants.{Angle}
use Rattle.waves.specs.SinCos.{sin_of, cos_of}

-- below -4, above 4, and the value
abbrev pub unless_outside : Bool → Bool → Float → Result Float Refusal
unless_outside true above r = Err Angle
unless_outside false true r = Err Angle
unless_outside false false r = Ok r

unfoldable pub sin_answer : Float → Result Float Refusal
sin_answer x = unless_outside (x <f negf f4) (x >f f4) (sin_of x)

unfoldable pub cos_answer : Float → Result Float Refusal
cos_answer x = unless_outside (x <f negf f4) (x >f f4) (cos_of x)
