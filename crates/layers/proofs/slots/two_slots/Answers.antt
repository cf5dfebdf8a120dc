-- The three copies, in the definition's order.
use Rattle.layers.specs.Ionset.{two_slots}
use Rattle.layers.proofs.slots.two_slots.Goals as goal

pub returns : goal.returns
unfolding two_slots
returns c = rw (← c.layer_from-s1.ensures, ← c.layer_from-s2.ensures, ← c.layer_from.ensures)
