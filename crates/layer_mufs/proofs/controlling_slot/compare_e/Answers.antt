-- Each path is the clause that its tests choose.
use Rattle.layer_mufs.specs.Controlling.{compare_e}
use Rattle.layer_mufs.proofs.controlling_slot.compare_e.Goals as goal

pub returns-then-s-e : goal.returns-then-s-e
unfolding compare_e
returns-then-s-e c = rw c.if-s-e.true

pub returns : goal.returns
unfolding compare_e
returns c = rw c.if-s-e.false
