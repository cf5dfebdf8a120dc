-- Heights: the words lent, and for a parabola the numbers of its layer and slot.
use mathlib.Core.Bool.{Bool, false}
use mathlib.Core.List.{List}
use mathlib.Core.Path.{refl}
use Prim.Native.Nat.{ℕ}
use lib.Dec.{ltb}
use lib.ListN.{length}
use lib.Ieee.{Float, binary32, of_bits}
use Rattle.refusal.specs.Number.{answer_number}
use Rattle.layers.specs.declared.IonoState.{IonoState}
use Rattle.records.specs.Chain.{member}
use Rattle.parabolas.specs.Bendy.{bendy_of, pen_of, layer_answer_by, bendy_answer, pen_answer}
use Rattle.port_state.specs.Ports.{Ported}
use Rattle.port_state.specs.State.{state_words, state_of}
use Rattle.port_heights.specs.Exports.{unless_either_short, on_state, state_by, state_with_room, grids_by, heights_left, layer_left, gethp_left, gethp_scan_left, reading_left, bendy_left, pen_left, xlin_left}
use Rattle.export_refusals.specs.Exports.{OneOf, gethp_numbers, gethp_scan_numbers, reading_numbers, bendy_numbers, pen_numbers, xlin_numbers}
use Rattle.export_refusals.proofs.Cases.{both}

-- on a state with room, or refused
on-state : (numbers : List ℕ) → OneOf numbers 1 → (left : IonoState → Ported) → ((s : IonoState) → OneOf numbers (left s).number) → (state out : List ℕ) (n : ℕ) → OneOf numbers (on_state (state_with_room state out n) out left).number
unfolding state_with_room
on-state numbers one left rest state out n =
    both (λ b. OneOf numbers (on_state (state_by b (ltb (length out) n) state) out left).number) one
    (both (λ b. OneOf numbers (on_state (state_by false b state) out left).number) one (rest (state_of state)) (ltb (length out) n))
    (ltb (length state) state_words)

-- a is what is answered where the words suffice
module _ (numbers : List ℕ) (out : List ℕ) (a : Ported) (one : OneOf numbers 1) (rest : OneOf numbers a.number) where
  left_by : (b c : Bool) → OneOf numbers (unless_either_short b c out a).number
  left_by b c = both (λ x. OneOf numbers (unless_either_short x c out a).number) one (both (λ x. OneOf numbers (unless_either_short false x out a).number) one rest c) b

  on-grids : (b c : Bool) → OneOf numbers (grids_by b c out a).number
  on-grids b c = both (λ x. OneOf numbers (grids_by x c out a).number) one (left_by c (ltb (length out) 2)) b

parabola : (b c : Bool) (v : Float) → OneOf bendy_numbers (answer_number (layer_answer_by b c v))
unfolding member
parabola b c v =
    both (λ x. OneOf bendy_numbers (answer_number (layer_answer_by x c v))) refl
    (both (λ x. OneOf bendy_numbers (answer_number (layer_answer_by false x v))) refl refl c) b

pub gethp-numbers : (state : List ℕ) (fxx : ℕ) (out : List ℕ) → OneOf gethp_numbers (gethp_left state fxx out).number
unfolding heights_left member
gethp-numbers state fxx out = on-state gethp_numbers refl _ (λ s. refl) state out 4

pub gethp-scan-numbers : (state : List ℕ) (fxx : ℕ) (out : List ℕ) → OneOf gethp_scan_numbers (gethp_scan_left state fxx out).number
unfolding heights_left member
gethp-scan-numbers state fxx out = on-state gethp_scan_numbers refl _ (λ s. refl) state out 4

pub reading-numbers : (state : List ℕ) (zi : ℕ) (out : List ℕ) → OneOf reading_numbers (reading_left state zi out).number
unfolding reading_left member
reading-numbers state zi out = on-state reading_numbers refl _ (λ s. refl) state out 3

pub bendy-numbers : (state : List ℕ) (i k f : ℕ) (out : List ℕ) → OneOf bendy_numbers (bendy_left state i k f out).number
unfolding layer_left bendy_answer member
bendy-numbers state i k f out = on-state bendy_numbers refl _ (λ s. parabola (ltb 2 i) (ltb 2 k) (bendy_of s i k (of_bits binary32 f))) state out 1

pub pen-numbers : (state : List ℕ) (i k f : ℕ) (out : List ℕ) → OneOf pen_numbers (pen_left state i k f out).number
unfolding layer_left pen_answer member
pen-numbers state i k f out = on-state pen_numbers refl _ (λ s. parabola (ltb 2 i) (ltb 2 k) (pen_of s i k (of_bits binary32 f))) state out 1

pub xlin-numbers : (x : ℕ) (xn yn out : List ℕ) → OneOf xlin_numbers (xlin_left x xn yn out).number
unfolding xlin_left member
xlin-numbers x xn yn out = on-grids xlin_numbers out _ refl refl (ltb (length xn) 50) (ltb (length yn) 50)
