-- The three stores are those of the definition; each index is below 15.
use Rattle.layers.specs.Ionset.{layer_from}
use mathlib.Core.Path.{refl}
use Rattle.layers.proofs.slots.layer_from.Goals as goal

pub returns : goal.returns
unfolding layer_from
returns c = refl
