-- Each path is the clause that its tests choose.
use Rattle.losses.specs.Alosfv.{not_below_zero}
use Rattle.losses.proofs.not_below_zero.Goals as goal

pub returns-then-a : goal.returns-then-a
unfolding not_below_zero
returns-then-a c = rw c.if-a.true

pub returns-else-a : goal.returns-else-a
unfolding not_below_zero
returns-else-a c = rw c.if-a.false
