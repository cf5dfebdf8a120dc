-- The two ends between which an arc is said to lie. Definitions only.
use Rattle.std.specs.Prelude.{ℕ, ◌+◌, ◌-◌, ◌*◌, Float}
use Rattle.scalar.specs.Root.{steps}
use Rattle.exact.specs.Unit.{ulp, ulp_below}

-- In units of 2 ^ -149 / 16. To the side of 0: |r| less 15/16 of the unit just below |r|, which is half of r's own where |r| is a power of two above 2 ^ -126; 0 where that is negative
abbrev pub before : Float → ℕ
before r = 16 * steps r - 15 * ulp_below r

-- away from 0: |r| and 15/16 of its own unit
abbrev pub behind : Float → ℕ
behind r = 16 * steps r + 15 * ulp r
