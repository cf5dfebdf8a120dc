-- The units to the two sides of a number of 24 binary digits. Above 2 ^ 23 the unit just below it is no smaller than the place of its last digit; at 2 ^ 23 it is at least half of that, and there the rounding was downwards, so that only the error before it counts below.
use Prim.Native.Nat.{ℕ, ◌-◌, ◌*◌, ◌^◌, ◌≤◌, ◌<◌}
use lib.Ieee.{size}
use Rattle.fixed.proofs.Values.{ulp-ge}
use Rattle.exact.proofs.Unit.{below_ge, below_half}

-- the units of v: its own, and that of what is just below it
abbrev pub unit : ℕ → ℕ
unit v = 2 ^ (size v - 24)

abbrev pub unit_below : ℕ → ℕ
unit_below v = 2 ^ (size (v - 1) - 24)

-- m places w have the unit t, and just below them l
pub record Units (m w l t : ℕ) : Type 0 where
  pub own : w ≤ t
  pub half : w ≤ 2 * l
  pub whole : 2 ^ 23 < m → w ≤ l

pub units_of : (m e : ℕ) → 2 ^ 23 ≤ m → Units m (2 ^ e) (unit_below (m * 2 ^ e)) (unit (m * 2 ^ e))
units_of m e h = record { own = ulp-ge m e h; half = below_half m e h; whole = below_ge m e }
