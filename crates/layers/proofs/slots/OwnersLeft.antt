-- `from_layers` starts from nobody's and writes the tables alone; `ionset` ends by `disowned`, which reads `ielect` as it came.
use mathlib.Core.Bool.{Bool, true, false}
use mathlib.Core.List.{List}
use mathlib.Core.Path.{◌≡◌, refl, sym, ap, subst, ◌∙◌}
use Rattle.std.specs.Prelude.{Result, Ok}
use Rattle.refusal.specs.declared.Refusal.{Refusal}
use Prim.Native.Nat.{ℕ, zero, suc}
use Rattle.layers.specs.State.{zero_state, with_owner, state_after}
use Rattle.layers.specs.Owners.{owner_by, owner_of, disowned_by, disowned}
use Rattle.layers.specs.OwnersLeft.{LayersUnowned, IonsetDisowns}
use Rattle.layers.specs.FromLayers.{count_taken, point_set, points_set, empty_of, from_layers_by, from_layers_of}
use Rattle.layers.specs.Ionset.{assigned_of, slots_settled, ionset_by, ionset_of}
use Rattle.layers.specs.declared.IonoState.{IonoState}
use Rattle.layers.specs.declared.LayerParams.{LayerParams}
use Rattle.layers.specs.declared.Owner.{Owner}
use Rattle.layers.proofs.slots.Keeps.{ionset-keeps}

points-owner : (s : IonoState) (params : List LayerParams) (n : ℕ) → owner_of (points_set s params n) ≡ owner_of s
unfolding points_set point_set owner_of
points-owner s params zero = refl
points-owner s params (suc n) = points-owner s params n

layers-by : (b : Bool) (params : List LayerParams) (count : ℕ) → owner_of (state_after zero_state (from_layers_by b params count)) ≡ Owner.None
unfolding empty_of owner_of
layers-by true params count = points-owner (empty_of count) params count
layers-by false params count = refl

pub layers-unowned : LayersUnowned
unfolding from_layers_of
layers-unowned params count = layers-by (count_taken count) params count

-- it changes the owner alone, where it changes anything
disowned-only-by : (b : Bool) (s : IonoState) → disowned_by b s ≡ with_owner s (disowned_by b s).owner
disowned-only-by true s = refl
disowned-only-by false s = refl

pub disowned-only : (s : IonoState) → disowned s ≡ with_owner s (disowned s).owner
unfolding disowned
disowned-only s = disowned-only-by s.ielect s

disowned-owner-by : (b : Bool) (s : IonoState) → s.ielect ≡ b → owner_of (disowned_by b s) ≡ owner_by b Owner.None
unfolding owner_of
disowned-owner-by true s e = rw e
disowned-owner-by false s e = rw e

disowned-owner : (s : IonoState) → owner_of (disowned s) ≡ owner_by s.ielect Owner.None
unfolding disowned
disowned-owner s = disowned-owner-by s.ielect s refl

-- `ionset` refuses, or is answered
ionset-by : (b : Bool) (s t : IonoState) → ionset_by b s ≡ Ok t → owner_of t ≡ owner_by t.ielect Owner.None
ionset-by true s t e =
    let u = slots_settled (assigned_of s) (assigned_of s).kfx in
    subst (λ (r : IonoState). owner_of r ≡ owner_by r.ielect Owner.None) (ap (state_after s) e)
    (disowned-owner u ∙ ap (λ (i : Bool). owner_by i Owner.None) (sym (ap (λ (r : IonoState). r.ielect) (disowned-only u))))
ionset-by false s t e = cc

pub ionset-disowns : IonsetDisowns
unfolding ionset_of
ionset-disowns s t e =
    ionset-by (count_taken s.km) s t e
    ∙ ap (λ (i : Bool). owner_by i Owner.None)
    (ap (λ (r : Result IonoState Refusal). (state_after s r).ielect) (sym e) ∙ (ionset-keeps s).ielect-kept)
