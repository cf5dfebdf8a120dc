-- What the circuit MUF on words answers, and the words that it leaves. A slice that is shorter than its layout is refused with 1, before all else, and then nothing is written.
use Rattle.std.specs.Prelude.{Bool, true, false, List, ℕ, ltb, length, Float, Result, Ok, Err}
use Rattle.refusal.specs.Number.{number_of}
use Rattle.refusal.specs.declared.Refusal.{Refusal}
use Rattle.layer_mufs.specs.declared.PathNumbers.{PathNumbers}
use Rattle.muf.specs.Curmuf.{flat_muf_of}
use Rattle.muf.specs.declared.AnswerAndRow.{AnswerAndRow}
use Rattle.port_state.specs.State.{state_words, state_of, state_into}
use Rattle.port_state.specs.Words.{number}
use Rattle.port_muf.specs.Floats.{floats}
use Rattle.port_muf.specs.HourWords.{hour_into, words_by}

-- the circuit MUF: its number, and the state's, the Es rows' and the hour's words afterwards
pub record HourLeft : Type 0 where
  pub number : ℕ
  pub state : List ℕ
  pub es : List ℕ
  pub out : List ℕ

abbrev pub leaves : ℕ → List ℕ → List ℕ → List ℕ → HourLeft
leaves number state es out = record { number = number; state = state; es = es; out = out }

-- gcd, gcdkm, amind, ssn
abbrev pub path_numbers_of : List ℕ → PathNumbers
path_numbers_of w = record { gcd = number w 0; gcdkm = number w 1; amind = number w 2; ssn = number w 3 }

unfoldable pub done_left : Result AnswerAndRow Refusal → List ℕ → List ℕ → List ℕ → HourLeft
done_left (Ok d) state es out = leaves 0 (state_into d.answer.state state) (words_by d.rewrite es) (hour_into d.answer.hour out)
done_left (Err r) state es out = leaves (number_of r) state es out

-- too few words of the state, too few numbers, no room for the hour
abbrev pub curmuf_by : Bool → Bool → Bool → HourLeft → HourLeft → HourLeft
curmuf_by true b c short a = short
curmuf_by false true c short a = short
curmuf_by false false true short a = short
curmuf_by false false false short a = a

-- `flat_muf_of` is all of `curmuf`: its hour and state, and the row that it rewrites; here on what the words stand for and on the deciles, lists of any length
unfoldable pub curmuf_left : List ℕ → List ℕ → List Float → List ℕ → List ℕ → List ℕ → List ℕ → HourLeft
curmuf_left state es deciles clat clck numbers out =
    curmuf_by (ltb (length state) state_words) (ltb (length numbers) 4) (ltb (length out) 54)
    (leaves (number_of Refusal.Length) state es out)
    (done_left (flat_muf_of (state_of state) (floats es) deciles (floats clat) (floats clck) (path_numbers_of numbers)) state es out)
