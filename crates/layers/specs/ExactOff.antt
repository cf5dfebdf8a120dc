-- The switch of the exact height rule: off in the state that `from_layers` makes, and in what `ionset` makes of it, which is what the programs run on.
use Rattle.std.specs.Prelude.{false, List, ◌≡◌, ℕ, ℤ}
use Rattle.layers.specs.State.{zero_state, with_iedp, state_after}
use Rattle.layers.specs.FromLayers.{from_layers_of}
use Rattle.layers.specs.Ionset.{ionset_of}
use Rattle.layers.specs.declared.LayerParams.{LayerParams}

-- what `exact-off` says
pub record ExactOff (params : List LayerParams) (count : ℕ) : Type 0 where
  pub from-layers : (state_after zero_state (from_layers_of params count)).exact_virtual_height ≡ false
  -- also where the shape is set in between
  pub from-ionset :
      (iedp : ℤ)
      → let s = with_iedp (state_after zero_state (from_layers_of params count)) iedp in
      (state_after s (ionset_of s)).exact_virtual_height ≡ false
