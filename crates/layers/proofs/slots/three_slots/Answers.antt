-- The copies of two slots, which do not read how many there are, and four more.
use Rattle.layers.specs.Ionset.{layer_from, two_slots, three_slots}
use Rattle.layers.proofs.slots.three_slots.Goals as goal

pub returns : goal.returns
unfolding layer_from two_slots three_slots
returns c = rw (c.layer_from.ensures, c.layer_from-s6.ensures, c.layer_from-s5.ensures, c.layer_from-s4.ensures, c.two_slots-t.ensures)
