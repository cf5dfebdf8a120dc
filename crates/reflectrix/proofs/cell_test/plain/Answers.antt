-- In the range it is a product of numbers above zero.
use mathlib.Core.Path.{sym, subst}
use lib.Dec.{T}
use lib.Ieee.{of_bits}
use Rattle.reflectrix.proofs.cell_test.Right.{khz-positive}
use Rattle.reflectrix.proofs.cell_test.plain.Goals as goal

pub returns-then-fvv-2 : goal.returns-then-fvv-2
returns-then-fvv-2 c = khz-positive c.args.fvv (subst T (sym c.well_formed.0.1) tt) (subst T (sym c.if-fvv.true) tt) (subst T (sym c.if-fvv-2.true) tt)

pub returns-else-fvv : goal.returns-else-fvv
unfolding of_bits
returns-else-fvv c = tt
