-- After k turns the first k points are set.
use mathlib.Core.Path.{◌≡◌}
use Rattle.layers.specs.FromLayers.{points_set}
use Rattle.layers.proofs.slots.set_points.Given as goal

abbrev pub invariant-loop-k : goal.invariant-loop-k
invariant-loop-k l = l.t ≡ points_set l.fn.s l.fn.params l.k
