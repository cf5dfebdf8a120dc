-- The calls on words and bytes: the number answered, 0 or the refusal's, and the words or bytes lent, afterwards. A circuit is
-- 657 words as in `port_circuit`, and its F2M3 five more. The count of words is looked at first; a refused call leaves everything.
use Rattle.std.specs.Prelude.{Bool, true, false, ◌&&◌, List, ℕ, leb, length, Result, Ok, Err}
use Rattle.refusal.specs.Number.{number_of, answer_number}
use Rattle.refusal.specs.declared.Refusal.{Refusal}
use Rattle.circuit.specs.declared.Circuit.{Circuit}
use Rattle.circuit.specs.Written as written
use Rattle.port_circuit.specs.Words.{words_from, words_into, circuit_of_words, circuit_into}
use Rattle.port_circuit.specs.Exports.{PortedCircuit, refused_read, Wrote}
use Rattle.answer_words.specs.Words.{number_left}
use Rattle.circuit.specs.declared.wide_circuit.WideCircuit.{WideCircuit}
use Rattle.circuit.specs.Wide.{form128, wide_of}

-- words past the 662 stay
unfoldable pub wide_into : WideCircuit → List ℕ → List ℕ
wide_into a w = words_into (circuit_into a.circuit w) 657 a.f2m3

unfoldable pub ported_wide_of : Result WideCircuit Refusal → List ℕ → PortedCircuit
ported_wide_of (Ok a) w = record { number = 0; cells = wide_into a w }
ported_wide_of (Err r) w = refused_read r w

abbrev pub port_read128_by : Bool → List ℕ → List ℕ → PortedCircuit
port_read128_by true file w = ported_wide_of (wide_of file) w
port_read128_by false file w = refused_read Refusal.Length w

unfoldable pub port_read128 : List ℕ → List ℕ → PortedCircuit
port_read128 file w = port_read128_by (leb 662 (length w)) file w

-- and how many bytes were written into the first word of `out`, as in `port_circuit`
abbrev pub port_write128_by : Bool → Circuit → List ℕ → List ℕ → List ℕ → Wrote
port_write128_by true c f2m3 file out =
    let a = written.write_answer_of form128 c file in
    record { number = answer_number a; cells = written.left_of form128 c f2m3 file; words = number_left a out }
port_write128_by false c f2m3 file out = record { number = number_of Refusal.Length; cells = file; words = out }

unfoldable pub port_write128 : List ℕ → List ℕ → List ℕ → Wrote
port_write128 words file out =
    port_write128_by (leb 662 (length words) && leb 1 (length out)) (circuit_of_words words) (words_from words 657 5) file out
