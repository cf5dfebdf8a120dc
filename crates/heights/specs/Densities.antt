-- The densities of the sum of `gethp`: of each node, by a full scan.
use Rattle.std.specs.Prelude.{List, ℕ, Float}
use Rattle.scalar.specs.F32.{◌/f◌, at}
use Rattle.scalar.specs.Literals.{f0_9999}
use Rattle.scalar.specs.Scalar.{min_of}
use Rattle.readings.specs.Scan.{value_of, reading_of}
use Rattle.readings.specs.declared.Reading.{Reading}
use Rattle.heights.specs.Nodes.{height_of}

-- a reading's density over fr, cut at 0.9999; a NaN becomes 0.9999
unfoldable pub cut_of : Reading → Float → Float
cut_of r fr = let y = value_of r in min_of (y /f fr) f0_9999

-- ysq[ig][ib]
unfoldable pub ysq_of : List Float → List Float → Float → Float → ℕ → ℕ → Float
ysq_of htr fnsq ht fr ig ib = let zi = height_of (at htr 0) ht ig ib in cut_of (reading_of htr fnsq zi) fr
