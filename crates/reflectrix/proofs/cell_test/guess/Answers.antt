-- A number above zero by a root is a number, and so are the sums.
use lib.Ieee.{fin, le, of_bits}
use lib.IntN.{pos}
use mathlib.Core.Bool.{false}
use Rattle.order.proofs.Tests.{le-real}
use Rattle.std.proofs.lemmas.Float.{le_trans}
use Rattle.scalar.specs.Literals.{f0_000001}
use Rattle.reflectrix.proofs.cell_test.Numbers.{real-number, quotient-real, less-real, sum-real}
use Rattle.reflectrix.proofs.cell_test.guess.Goals as goal

pub float_to_bits-result : goal.float_to_bits-result
unfolding of_bits le
float_to_bits-result c =
    let root = (le-real (fin false 0 (pos 0)) c.sqrt.result (c.sqrt.ensures.bound (le_trans (fin false 0 (pos 0)) f0_000001 c.args.sqcos tt c.requires.1))).1 in
    real-number _ (sum-real _ _ (less-real _ _ (quotient-real c.args.plain c.sqrt.result c.requires.0 root) tt) tt)
