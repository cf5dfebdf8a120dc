-- A cell of the reflectrix from the row's frequency and the square of the cosine at the layer, and the bounds of the test that a guess at it has to pass. Definitions only.
-- A number n is the cell where n * n * sqcos is at most the lower bound and (n + 1) * (n + 1) * sqcos at least the upper one, each product rounded; Laws.antt says so.
use Rattle.std.specs.Prelude.{◌≡◌, Bool, ◌&&◌, ◌||◌, cond, ℕ, ◌-◌, ◌^◌, ◌<◌, leb, ℤ, pos, Float}
use Rattle.std.specs.Float.{nan, binary32}
use Rattle.std.specs.Float.Ieee.{of_bits, to_bits}
use Rattle.scalar.specs.F32.{◌-f◌, ◌*f◌, ◌/f◌, ◌≤f◌, ◌==f◌}
use Rattle.scalar.specs.Literals.{f0, f0_000001, f1, f1000}
use Rattle.scalar.specs.Scalar.{max_of, trunc_of}
use Rattle.scalar.specs.Root.{sqrt_of}

-- the square of the cosine at the layer, from the sine there, cut at a millionth
unfoldable pub sqcos_of : Float → Float
sqcos_of sphe = max_of (f1 -f sphe *f sphe) f0_000001

-- what the reflectrix holds: the frequency over the cosine, in kHz, cut to a whole number
unfoldable pub khz_of : Float → Float → ℤ
khz_of fvv sqcos = trunc_of (f1000 *f (fvv /f sqrt_of sqcos))

-- zero, and from 2^-10 to 1024 MHz, where no step on the way to a cell leaves the normal range
unfoldable pub tame : Float → Bool
tame fvv = (fvv ==f f0) || ((of_bits binary32 0x3a800000 ≤f fvv) && (fvv ≤f of_bits binary32 0x44800000))

-- the square of the frequency in kHz
unfoldable pub khz_square_of : Float → Float
khz_square_of fvv = (f1000 *f fvv) *f (f1000 *f fvv)

-- 14 / 2^24 below 1, and as much above it
abbrev pub under_one : Float
under_one = of_bits binary32 0x3f7ffff2

abbrev pub over_one : Float
over_one = of_bits binary32 0x3f800007

-- the bounds: nothing is at most NaN
unfoldable pub low_of : Float → Float
low_of fvv = cond (tame fvv) (khz_square_of fvv *f under_one) nan

unfoldable pub high_of : Float → Float
high_of fvv = khz_square_of fvv *f over_one

-- from this number on an answer says that the cell is in doubt
abbrev pub in_doubt : ℕ
in_doubt = 2 ^ 31

-- The bounds by their patterns, which are in order as floats that are not below zero are. Where the frequency is not tame the lower one is 0, and the upper one above every product's.
unfoldable pub low_pattern_of : Float → ℕ
low_pattern_of fvv = cond (tame fvv) (to_bits binary32 (low_of fvv)) 0

unfoldable pub high_pattern_of : Float → ℕ
high_pattern_of fvv = cond (tame fvv) (to_bits binary32 (high_of fvv)) (2 ^ 32 - 1)

-- what is told of a guess n, from the patterns p of n * n * sqcos and q of (n + 1) * (n + 1) * sqcos and those of the bounds
unfoldable pub told_of : ℕ → ℕ → ℕ → ℕ → ℕ → ℕ
told_of n p q low high = cond (leb high q) (cond (leb p low) n in_doubt) in_doubt

-- What is answered for a cell: a number below `in_doubt`, and then it is the cell, or one from there on, which says nothing.
pub record Told (fvv sqcos : Float) (r : ℕ) : Type 0 where
  pub most : r < 2 ^ 32
  pub right : r < in_doubt → khz_of fvv sqcos ≡ pos r
