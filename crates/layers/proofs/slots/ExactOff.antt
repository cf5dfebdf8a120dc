-- `from_layers` starts from a state with the switch off and writes the tables alone; `ionset` keeps the switch.
use mathlib.Core.Bool.{Bool, true, false}
use mathlib.Core.List.{List}
use mathlib.Core.Path.{◌≡◌, refl, ◌∙◌}
use Prim.Native.Nat.{ℕ, zero, suc}
use Rattle.layers.specs.State.{zero_state, state_after}
use Rattle.layers.specs.FromLayers.{count_taken, point_set, points_set, empty_of, from_layers_by, from_layers_of}
use Rattle.layers.specs.ExactOff.{ExactOff}
use Rattle.layers.specs.declared.IonoState.{IonoState}
use Rattle.layers.specs.declared.LayerParams.{LayerParams}
use Rattle.layers.proofs.slots.Keeps.{ionset-keeps}

points : (s : IonoState) (params : List LayerParams) (n : ℕ) → (points_set s params n).exact_virtual_height ≡ s.exact_virtual_height
unfolding points_set point_set
points s params zero = refl
points s params (suc n) = points s params n

by_count : (b : Bool) (params : List LayerParams) (count : ℕ) → (state_after zero_state (from_layers_by b params count)).exact_virtual_height ≡ false
unfolding empty_of
by_count true params count = points (empty_of count) params count
by_count false params count = refl

off : (params : List LayerParams) (count : ℕ) → (state_after zero_state (from_layers_of params count)).exact_virtual_height ≡ false
unfolding from_layers_of
off params count = by_count (count_taken count) params count

pub exact-off : (params : List LayerParams) (count : ℕ) → ExactOff params count
exact-off params count = record { from-layers = off params count; from-ionset = λ iedp. (ionset-keeps _).exact-kept ∙ off params count }
