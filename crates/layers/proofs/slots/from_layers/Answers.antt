-- At most five points are read, since no more are taken.
use Rattle.layers.specs.FromLayers.{from_layers_of}
use Rattle.layers.proofs.layer_rules.Counts.{taken-five}
use mathlib.Core.Path.{sym, ◌∙◌}
use Rattle.layers.proofs.slots.from_layers.Goals as goal

pub set_points-requires : goal.set_points-requires
set_points-requires c = taken-five _ (sym c.count_taken.ensures ∙ c.if-count_taken.true)

pub returns-then-count_taken : goal.returns-then-count_taken
unfolding from_layers_of
returns-then-count_taken c = rw (← c.count_taken.ensures, c.if-count_taken.true, ← c.empty.ensures, ← c.set_points.ensures)

pub returns : goal.returns
unfolding from_layers_of
returns c = rw (← c.count_taken.ensures, c.if-count_taken.false)
