-- Each path is the clause that its tests choose: no F1, dropped, or kept.
use Rattle.layers.specs.Ionset.{f1_settled}
use Rattle.layers.proofs.slots.settle_f1.Goals as goal

pub returns-then-too_close : goal.returns-then-too_close
unfolding f1_settled
returns-then-too_close c = rw (c.if-s-f1.true, ← c.too_close.ensures, c.if-too_close.true)

pub returns-then-s-f1 : goal.returns-then-s-f1
unfolding f1_settled
returns-then-s-f1 c = rw (c.if-s-f1.true, ← c.too_close.ensures, c.if-too_close.false, ← c.min-h.ensures)

pub returns : goal.returns
unfolding f1_settled
returns c = rw c.if-s-f1.false
