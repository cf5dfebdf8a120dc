-- Two stores.
use Rattle.port_layers.specs.Exports.{owner_pair}
use Rattle.port_layers.proofs.owner_pair.Goals as goal

pub returns : goal.returns
unfolding owner_pair
returns c = rw (← c.from.ensures, ← c.slot.ensures, ← c.count.ensures)
