-- The calls on words and bytes: the number answered, 0 or the refusal's, and the words or bytes lent, afterwards. The count of words is looked at first; a refused call leaves everything.
use Rattle.std.specs.Prelude.{Bool, true, false, ◌&&◌, List, [], ℕ, leb, length, Result, Ok, Err}
use Rattle.refusal.specs.Number.{number_of, answer_number}
use Rattle.refusal.specs.declared.Refusal.{Refusal}
use Rattle.records.specs.Record.{form64}
use Rattle.circuit.specs.Read.{read_of}
use Rattle.circuit.specs.declared.Circuit.{Circuit}
use Rattle.circuit.specs.Written as written
use Rattle.answer_words.specs.Words.{number_left}
use Rattle.port_circuit.specs.Words.{circuit_of_words, circuit_into}

pub record PortedCircuit : Type 0 where
  pub number : ℕ
  pub cells : List ℕ

abbrev pub refused_read : Refusal → List ℕ → PortedCircuit
refused_read r w = record { number = number_of r; cells = w }

unfoldable pub ported_read_of : Result Circuit Refusal → List ℕ → PortedCircuit
ported_read_of (Ok c) w = record { number = 0; cells = circuit_into c w }
ported_read_of (Err r) w = refused_read r w

abbrev pub port_read_by : Bool → List ℕ → List ℕ → PortedCircuit
port_read_by true file w = ported_read_of (read_of form64 file) w
port_read_by false file w = refused_read Refusal.Length w

unfoldable pub port_read : List ℕ → List ℕ → PortedCircuit
port_read file w = port_read_by (leb 657 (length w)) file w

-- the writer's: its number, the bytes lent and the words lent, afterwards
pub record Wrote : Type 0 where
  pub number : ℕ
  pub cells : List ℕ
  pub words : List ℕ

-- how many bytes were written stands in the first word; at a refusal nothing does
abbrev pub port_write_by : Bool → Circuit → List ℕ → List ℕ → Wrote
port_write_by true c file out =
    let a = written.write_answer_of form64 c file in
    record { number = answer_number a; cells = written.left_of form64 c [] file; words = number_left a out }
port_write_by false c file out = record { number = number_of Refusal.Length; cells = file; words = out }

unfoldable pub port_write : List ℕ → List ℕ → List ℕ → Wrote
port_write words file out = port_write_by (leb 657 (length words) && leb 1 (length out)) (circuit_of_words words) file out
