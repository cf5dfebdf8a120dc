-- What each export answers, and the words that it leaves. A slice that is shorter than its layout is refused with 1, before all else, and then nothing is written.
use Rattle.std.specs.Prelude.{Bool, true, false, List, ℕ, ltb, length, Float, Result, Ok, Err}
use Rattle.std.specs.Float.{binary32}
use Rattle.std.specs.Float.Ieee.{of_bits}
use Rattle.port_state.specs.Words.{floats_of}
use Rattle.port_state.specs.Ports.{Ported, refused_with}
use Rattle.port_state.specs.State.{state_words, state_of}
use Rattle.readings.specs.Scan.{reading_of}
use Rattle.heights.specs.Gethp.{gethp_of, gethp_scan_of}
use Rattle.heights.specs.declared.Heights.{Heights}
use Rattle.parabolas.specs.Bendy.{bendy_answer, pen_answer}
use Rattle.readings.specs.Xlin.{xlin_found}
use Rattle.layers.specs.declared.IonoState.{IonoState}
use Rattle.refusal.specs.declared.Refusal.{Refusal}
use Rattle.refusal.specs.Number.{answer_number}
use Rattle.answer_words.specs.Words.{float_left}
use Rattle.port_heights.specs.Words.{heights_into, found_into, reading_into}

-- a state's words are there, and n words to write: the state that they are read as
abbrev pub state_by : Bool → Bool → List ℕ → Result IonoState Refusal
state_by true b state = Err Refusal.Length
state_by false true state = Err Refusal.Length
state_by false false state = Ok (state_of state)

unfoldable pub state_with_room : List ℕ → List ℕ → ℕ → Result IonoState Refusal
state_with_room state out n = state_by (ltb (length state) state_words) (ltb (length out) n) state

-- what is left on the state, if there is one
abbrev pub on_state : Result IonoState Refusal → List ℕ → (IonoState → Ported) → Ported
on_state (Ok s) out left = left s
on_state (Err r) out left = refused_with r out

-- the heights that a rule gives
unfoldable pub heights_left : (IonoState → Float → Heights) → List ℕ → ℕ → List ℕ → Ported
heights_left rule state fxx out = on_state (state_with_room state out 4) out (λ s. record { number = 0; words = heights_into (rule s (of_bits binary32 fxx)) out })

abbrev pub gethp_left : List ℕ → ℕ → List ℕ → Ported
gethp_left = heights_left gethp_of

abbrev pub gethp_scan_left : List ℕ → ℕ → List ℕ → Ported
gethp_scan_left = heights_left gethp_scan_of

unfoldable pub reading_left : List ℕ → ℕ → List ℕ → Ported
reading_left state zi out = on_state (state_with_room state out 3) out (λ s. record { number = 0; words = reading_into (reading_of s.htr s.fnsq (of_bits binary32 zi)) out })

-- a layer's number that a rule gives: the refusal's number, or 0 and the value's word
unfoldable pub layer_left : (IonoState → ℕ → ℕ → Float → Result Float Refusal) → List ℕ → ℕ → ℕ → ℕ → List ℕ → Ported
layer_left rule state i k f out =
    on_state (state_with_room state out 1) out
    (λ s. let a = rule s i k (of_bits binary32 f) in record { number = answer_number a; words = float_left a out })

abbrev pub bendy_left : List ℕ → ℕ → ℕ → ℕ → List ℕ → Ported
bendy_left = layer_left bendy_answer

abbrev pub pen_left : List ℕ → ℕ → ℕ → ℕ → List ℕ → Ported
pen_left = layer_left pen_answer

-- is one slice too short, is the other
abbrev pub unless_either_short : Bool → Bool → List ℕ → Ported → Ported
unless_either_short true b out a = refused_with Refusal.Length out
unless_either_short false true out a = refused_with Refusal.Length out
unless_either_short false false out a = a

abbrev pub grids_by : Bool → Bool → List ℕ → Ported → Ported
grids_by true b out a = refused_with Refusal.Length out
grids_by false b out a = unless_either_short b (ltb (length out) 2) out a

unfoldable pub xlin_left : ℕ → List ℕ → List ℕ → List ℕ → Ported
xlin_left x xn yn out =
    grids_by (ltb (length xn) 50) (ltb (length yn) 50) out (record { number = 0; words = found_into (xlin_found (of_bits binary32 x) (floats_of xn 0 50) (floats_of yn 0 50)) out })
