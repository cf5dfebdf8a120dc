-- The operations of the Rust's f32, as definitions write them: `x +f y` is IEEE 754's sum at binary32, and so on. A comparison gives a Bool, false where an operand is NaN.
use Rattle.std.specs.Prelude.{Bool, List, ℕ, get_or, Float}
use Rattle.std.specs.Float.Ieee as Ieee
use Rattle.std.specs.Float.{binary32, nan}

infixl 65 ◌+f◌
infixl 65 ◌-f◌
infixl 70 ◌*f◌
infixl 70 ◌/f◌
infix 50 ◌<f◌
infix 50 ◌≤f◌
infix 50 ◌>f◌
infix 50 ◌≥f◌
infix 50 ◌==f◌
abbrev pub ◌+f◌ : Float → Float → Float
x +f y = Ieee.add binary32 x y

abbrev pub ◌-f◌ : Float → Float → Float
x -f y = Ieee.sub binary32 x y

abbrev pub ◌*f◌ : Float → Float → Float
x *f y = Ieee.mul binary32 x y

abbrev pub ◌/f◌ : Float → Float → Float
x /f y = Ieee.div binary32 x y

abbrev pub ◌<f◌ : Float → Float → Bool
x <f y = Ieee.lt x y

abbrev pub ◌≤f◌ : Float → Float → Bool
x ≤f y = Ieee.le x y

abbrev pub ◌>f◌ : Float → Float → Bool
x >f y = Ieee.lt y x

abbrev pub ◌≥f◌ : Float → Float → Bool
x ≥f y = Ieee.le y x

abbrev pub ◌==f◌ : Float → Float → Bool
x ==f y = Ieee.eq x y

-- -x: the sign turned, also of a zero
abbrev pub negf : Float → Float
negf x = Ieee.neg x

-- `l[i]`: NaN past the end, where no code reads
abbrev pub at : List Float → ℕ → Float
at l i = get_or l i nan
