-- Minimum, maximum, abs and the cut to an i32, as the paper has them under "Scalars". They are defined on every value: NaN, both infinities and both zeros.
use Rattle.std.specs.Prelude.{Bool, true, false, ◌||◌, ℕ, ◌*◌, ◌/◌, min, ℤ, pos, negsuc, neg_ℤ, Float}
use Rattle.std.specs.Float.{nan, inf, fin}
use Rattle.std.specs.Float.Ieee.{up, down, is_nan}
use Rattle.scalar.specs.F32.{◌<f◌, ◌>f◌}

-- The first of two values, or the second where the test says so.
unfoldable pub or_second : Bool → Float → Float → Float
or_second true a b = b
or_second false a b = a

-- The second where the first is NaN or the second is less. So a NaN is dropped, and of two equal values, -0 and +0 too, the first is the answer.
unfoldable pub min_of : Float → Float → Float
min_of a b = or_second (is_nan a || (b <f a)) a b

unfoldable pub max_of : Float → Float → Float
max_of a b = or_second (is_nan a || (b >f a)) a b

-- The value without its sign: -0 gives +0.
unfoldable pub abs_of : Float → Float
abs_of nan = nan
abs_of (inf s) = inf false
abs_of (fin s m e) = fin false m e

-- The Rust's `as i32`: cut towards zero, kept within -2 ^ 31 to 2 ^ 31 - 1, 0 for NaN. The size of `fin s m e` is m * 2 ^ e, which is m * up e / down e, and whole numbers divide with the rest dropped.
abbrev pub whole_part : ℕ → ℤ → ℕ
whole_part m e = m * up e / down e

unfoldable pub trunc_of : Float → ℤ
trunc_of nan = pos 0
trunc_of (inf true) = negsuc 0x7fff_ffff
trunc_of (inf false) = pos 0x7fff_ffff
trunc_of (fin true m e) = neg_ℤ (pos (min (whole_part m e) 0x8000_0000))
trunc_of (fin false m e) = pos (min (whole_part m e) 0x7fff_ffff)
