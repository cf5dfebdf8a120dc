-- The zero state with two fields set.
use Rattle.layers.specs.FromLayers.{empty_of}
use Rattle.layers.proofs.slots.empty.Goals as goal

pub returns : goal.returns
unfolding empty_of
returns c = rw c.zero_state-s.ensures
