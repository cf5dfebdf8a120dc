-- What a circuit file that carries F2M3 holds. Chain, reader and writer are those of every form
-- (`circuit`, `circuit_write`) at this one.
use Rattle.std.specs.Prelude.{ℕ, List, replicate, Result, Ok, Err}
use Rattle.refusal.specs.declared.Refusal.{Refusal}
use Rattle.circuit.specs.declared.Circuit.{Circuit}
use Rattle.circuit.specs.Read.{read_of, no_circuit, beside_of}
use Rattle.circuit.specs.declared.wide_circuit.WideCircuit.{WideCircuit}
pub use Rattle.records.specs.Form128.{form128}

-- the circuit, and beside it F2M3 of its points, zeros after them
abbrev pub wide_by : Result Circuit Refusal → List ℕ → Result WideCircuit Refusal
wide_by (Ok c) f2m3 = Ok (record { circuit = c; f2m3 = f2m3 })
wide_by (Err r) f2m3 = Err r

unfoldable pub wide_of : List ℕ → Result WideCircuit Refusal
wide_of f = wide_by (read_of form128 f) (beside_of form128 f)

-- the circuit and F2M3, for every case of the answer: at a refusal all are zero
abbrev pub wide_in : Result WideCircuit Refusal → WideCircuit
wide_in (Ok c) = c
wide_in (Err r) = record { circuit = no_circuit; f2m3 = replicate 5 0 }
