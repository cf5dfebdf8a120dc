-- A row of each table, by what `set_row` answers.
use Rattle.layers.specs.FromLayers.{point_set}
use Rattle.layers.proofs.slots.set_point.Goals as goal

pub returns : goal.returns
unfolding point_set
returns c = rw (← c.set_row-s.ensures, ← c.set_row-s-2.ensures, ← c.set_row-s-3.ensures)
