-- `xlin` of sigdis.rs at length 50: after its first test the loop is that of `profile_interpolate`, letter for letter.
use Rattle.std.specs.Prelude.{Bool, true, false, List, Float, ℕ}
use Rattle.scalar.specs.F32.{◌-f◌, ◌>f◌, at}
use Rattle.scalar.specs.Literals.{f0}
use Rattle.readings.specs.Scan.{profile_interpolate_of, profile_segment_of, unsearched}
use Rattle.readings.specs.declared.Found.{Found}

abbrev pub xlin_by : Bool → Float → List Float → List Float → Float
xlin_by true x xn yn = at yn 0
xlin_by false x xn yn = profile_interpolate_of xn yn x

unfoldable pub xlin_of : Float → List Float → List Float → Float
xlin_of x xn yn = xlin_by (at xn 0 -f x >f f0) x xn yn

-- the segment on which it is found
abbrev pub xlin_segment_by : Bool → Float → List Float → List Float → ℕ
xlin_segment_by true x xn yn = unsearched
xlin_segment_by false x xn yn = profile_segment_of xn yn x

unfoldable pub xlin_segment_of : Float → List Float → List Float → ℕ
xlin_segment_of x xn yn = xlin_segment_by (at xn 0 -f x >f f0) x xn yn

abbrev pub xlin_found : Float → List Float → List Float → Found
xlin_found x xn yn = record { value = xlin_of x xn yn; segment = xlin_segment_of x xn yn }
