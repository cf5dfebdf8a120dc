-- What `widen` and `narrow` write of the bytes that they are given.
use Rattle.std.specs.Prelude.{ℕ, List, [], Bool, true, false, replicate, Result, Ok, Err}
use Rattle.refusal.specs.declared.Refusal.{Refusal}
use Rattle.circuit.specs.declared.Circuit.{Circuit}
use Rattle.lines.specs.Text.{refused_text}
use Rattle.records.specs.Record.{form64, all_zero}
use Rattle.circuit.specs.Read.{read_of}
use Rattle.circuit.specs.Written.{file_of}
use Rattle.circuit.specs.declared.wide_circuit.WideCircuit.{WideCircuit}
use Rattle.circuit.specs.Wide.{form128, wide_of}

-- The circuit on the way back: the reader's refusal; then 14, where not all F2M3 are +0.
abbrev pub back_by : Bool → Circuit → Result Circuit Refusal
back_by true c = Ok c
back_by false c = Err Refusal.F2m3

unfoldable pub back_of : Result WideCircuit Refusal → Result Circuit Refusal
back_of (Ok a) = back_by (all_zero a.f2m3) a.circuit
back_of (Err r) = Err r

-- a circuit's file, or only the refusal
abbrev pub written_by : Result Circuit Refusal → (Circuit → List ℕ) → List ℕ
written_by (Ok c) file = file c
written_by (Err r) file = refused_text r

-- old into new: the circuit's file, F2M3 being +0
unfoldable pub widened : List ℕ → List ℕ
widened f = written_by (read_of form64 f) (λ c. file_of form128 c (replicate 5 0))

-- new into old
unfoldable pub narrowed : List ℕ → List ℕ
narrowed f = written_by (back_of (wide_of f)) (λ c. file_of form64 c [])
