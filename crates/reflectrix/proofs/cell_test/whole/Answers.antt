-- By the lemma on such a difference.
use native.Mathlib.Omega.{arith}
use Rattle.scalar.proofs.Nan.{number-pattern}
use Rattle.reflectrix.proofs.cell_test.Lead.{whole-is}
use Rattle.reflectrix.proofs.cell_test.whole.Goals as goal

pub float_from_bits-result : goal.float_from_bits-result
float_from_bits-result c = let h = c.requires in number-pattern _ (omega arith)

pub returns : goal.returns
returns c = let h = c.requires in whole-is c.args.n (omega arith)
