-- One store, of the minimum.
use Rattle.layers.specs.Ionset.{f2_settled}
use Rattle.layers.proofs.slots.settle_f2.Goals as goal

pub returns : goal.returns
unfolding f2_settled
returns c = rw (← c.min-y.ensures)
