-- The state of an hour: its words, the count of points, the number of a slot.
use mathlib.Core.Bool.{◌&&◌}
use mathlib.Core.List.{List}
use mathlib.Core.Path.{refl}
use Rattle.std.specs.Prelude.{Result, IfErr}
use Rattle.refusal.specs.declared.Refusal.{Refusal}
use Prim.Native.Nat.{ℕ, ◌/◌, ◌%◌}
use lib.Dec.{leb, ltb, eqb}
use lib.ListN.{length}
use Rattle.records.specs.Chain.{member}
use Rattle.layers.specs.FromLayers as layers
use Rattle.layers.specs.Ionset as ionset
use Rattle.layers.specs.declared.IonoState.{IonoState}
use Rattle.layers.specs.declared.LayerParams.{LayerParams}
use Rattle.profile.specs.Lecden.{lecden_answer_by, lecden_answer}
use Rattle.port_state.specs.State.{state_words, state_of}
use Rattle.port_state.specs.Ports.{points_of}
use Rattle.port_layers.specs.Exports.{ported_state_of, port_ionset_by, port_ionset, port_lecden_by, port_lecden, from_points_by, port_from_layers_by, port_from_layers, owner_answer_by, port_owner}
use Rattle.sheet_refusals.specs.Refusals.{Among}
use Rattle.export_refusals.specs.Exports.{OneOf, from_layers_numbers, ionset_numbers, lecden_numbers, owner_numbers}
use Rattle.export_refusals.proofs.Cases.{both, by-answer}

answered : (numbers : List ℕ) (a : Result IonoState Refusal) (w : List ℕ) → OneOf numbers 0 → IfErr a (Among numbers) → OneOf numbers (ported_state_of a w).number
unfolding ported_state_of
answered numbers a w zero p = by-answer numbers (λ x. (ported_state_of x w).number) (λ s. zero) (λ r. refl) a p

layers-in : (params : List LayerParams) (n : ℕ) → IfErr (layers.from_layers_of params n) (Among from_layers_numbers)
unfolding layers.from_layers_of member
layers-in params n = both (λ b. IfErr (layers.from_layers_by b params n) (Among from_layers_numbers)) tt refl (layers.count_taken n)

ionset-in : (s : IonoState) → IfErr (ionset.ionset_of s) (Among ionset_numbers)
unfolding ionset.ionset_of member
ionset-in s = both (λ b. IfErr (ionset.ionset_by b s) (Among ionset_numbers)) tt refl (layers.count_taken s.km)

lecden-in : (s : IonoState) (k : ℕ) → IfErr (lecden_answer s k) (Among lecden_numbers)
unfolding lecden_answer member
lecden-in s k = both (λ b. IfErr (lecden_answer_by b s k) (Among lecden_numbers)) tt refl (ltb k 3)

pub from-layers-numbers : (points state : List ℕ) → OneOf from_layers_numbers (port_from_layers points state).number
unfolding port_from_layers member
from-layers-numbers points state =
    let n = length points / 9 in
    both (λ b. OneOf from_layers_numbers (port_from_layers_by b points state).number)
    (both (λ b. OneOf from_layers_numbers (from_points_by b points state).number)
    (answered from_layers_numbers (layers.from_layers_of (points_of points n) n) state refl (layers-in (points_of points n) n))
    refl (eqb (length points % 9) 0 && leb (length points) 45))
    refl (leb state_words (length state))

pub ionset-numbers : (state : List ℕ) → OneOf ionset_numbers (port_ionset state).number
unfolding port_ionset member
ionset-numbers state =
    both (λ b. OneOf ionset_numbers (port_ionset_by b state).number)
    (answered ionset_numbers (ionset.ionset_of (state_of state)) state refl (ionset-in (state_of state)))
    refl (leb state_words (length state))

pub lecden-numbers : (state : List ℕ) (k : ℕ) → OneOf lecden_numbers (port_lecden state k).number
unfolding port_lecden member
lecden-numbers state k =
    both (λ b. OneOf lecden_numbers (port_lecden_by b state k).number)
    (answered lecden_numbers (lecden_answer (state_of state) k) state refl (lecden-in (state_of state) k))
    refl (leb state_words (length state))

pub owner-numbers : (state out : List ℕ) → OneOf owner_numbers (port_owner state out).number
unfolding port_owner member
owner-numbers state out = both (λ b. OneOf owner_numbers (owner_answer_by b state out).number) refl refl (leb state_words (length state) && leb 2 (length out))
