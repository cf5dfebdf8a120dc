-- Whose profile `from_layers` and `ionset` leave: nobody's, and supplied where `ielect` is set.
use Rattle.std.specs.Prelude.{List, ◌≡◌, ℕ, Ok}
use Rattle.layers.specs.State.{zero_state, state_after}
use Rattle.layers.specs.Owners.{owner_by, owner_of}
use Rattle.layers.specs.FromLayers.{from_layers_of}
use Rattle.layers.specs.Ionset.{ionset_of}
use Rattle.layers.specs.declared.IonoState.{IonoState}
use Rattle.layers.specs.declared.LayerParams.{LayerParams}
use Rattle.layers.specs.declared.Owner.{Owner}

-- what `layers-unowned` says
abbrev pub LayersUnowned : Type 0
LayersUnowned = (params : List LayerParams) (count : ℕ) → owner_of (state_after zero_state (from_layers_of params count)) ≡ Owner.None

-- what `ionset-disowns` says
abbrev pub IonsetDisowns : Type 0
IonsetDisowns = (s t : IonoState) → ionset_of s ≡ Ok t → owner_of t ≡ owner_by s.ielect Owner.None
