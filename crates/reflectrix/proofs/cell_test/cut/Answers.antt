-- Either side of the test is the maximum, where the format holds the number.
use mathlib.Core.Path.{sym, subst}
use lib.Dec.{T}
use Rattle.reflectrix.proofs.cell_test.Cosine.{above, below}
use Rattle.reflectrix.proofs.cell_test.cut.Goals as goal

pub returns-then-square : goal.returns-then-square
returns-then-square c = above c.args.square (subst T (sym c.well_formed.0.1) tt) c.if-square.true

pub returns-else-square : goal.returns-else-square
returns-else-square c = below c.args.square (subst T (sym c.well_formed.0.1) tt) c.if-square.false
