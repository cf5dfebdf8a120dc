-- The pattern is that of a number from 1 to below 4, whose root is no NaN. Assumes nothing.
use native.Mathlib.Omega.{arith}
use Rattle.scalar.proofs.Nan.{number-pattern}
use Rattle.scalar.proofs.root.near_root.Goals as goal

pub float_from_bits-t : goal.float_from_bits-t
float_from_bits-t c = number-pattern _ (omega arith)
