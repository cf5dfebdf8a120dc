-- A circuit that was read has at most five points, and a shape of one word.
use mathlib.Core.Path.{sym}
use Rattle.port_circuit.proofs.port_wide.Small.{wide_small_read}
use Rattle.port_circuit.proofs.port_wide.read_into.Goals as goal

pub wide_into-requires : goal.wide_into-requires
wide_into-requires c = let s = wide_small_read _ _ (sym c.in_ok-a.ensures) in (c.if-out-lt662.false, s.0, s.1)
