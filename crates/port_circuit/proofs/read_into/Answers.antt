-- A circuit that was read has at most five points, and a shape of one word.
use mathlib.Core.Path.{sym}
use Rattle.records.proofs.Lists.{fit64}
use Rattle.circuit.proofs.Answers.{small_read}
use Rattle.port_circuit.proofs.read_into.Goals as goal

pub circuit_into-requires : goal.circuit_into-requires
circuit_into-requires c = let s = small_read _ fit64 _ _ (sym c.in_ok-c.ensures) in (c.if-out-lt657.false, s.0, s.1)
