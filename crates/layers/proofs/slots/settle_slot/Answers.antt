-- F1, then F2.
use Rattle.layers.specs.Ionset.{slot_settled}
use Rattle.layers.proofs.slots.settle_slot.Goals as goal

pub returns : goal.returns
unfolding slot_settled
returns c = rw (← c.settle_f1.ensures, ← c.settle_f2.ensures)
