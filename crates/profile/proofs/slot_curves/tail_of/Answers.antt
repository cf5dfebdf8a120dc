-- The same operations, in the same order.
use Rattle.profile.specs.Draw.{tail_of}
use Rattle.profile.proofs.slot_curves.tail_of.Goals as goal

pub returns : goal.returns
unfolding tail_of
returns c = rw (← c.exp.ensures)
