-- The stores and the two fills, in the definition's order.
use Rattle.profile.specs.Grid.{lower_of}
use Rattle.profile.proofs.slot_curves.grid.lower.Goals as goal

pub returns : goal.returns
unfolding lower_of
returns c = rw (← c.max-hdif.ensures, ← c.min-m.ensures, ← c.fill-g.ensures, ← c.fill-i.ensures)
