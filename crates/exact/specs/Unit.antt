-- The unit of the last place of a finite float, as a whole number of units of 2 ^ -149. Definitions only.
use Rattle.std.specs.Prelude.{ℕ, ◌-◌, ◌*◌, ◌^◌, Float}
use Rattle.std.specs.Float.Ieee.{size}
use Rattle.scalar.specs.Root.{steps}

-- one unit in the last place of x, in units of 2 ^ -149: 24 significant bits, and at least 1
abbrev pub ulp : Float → ℕ
ulp x = 2 ^ (size (steps x) - 24)

-- one unit in the last place of what is just below |x|: half of x's own where |x| is a power of two above 2 ^ -126, else x's own
abbrev pub ulp_below : Float → ℕ
ulp_below x = 2 ^ (size (steps x - 1) - 24)

-- units of 2 ^ -149 / 16, so many of which are 1
abbrev pub unity : ℕ
unity = 16 * 2 ^ 149
