-- F2M3 after the circuit.
use Rattle.port_circuit.specs.WideExports.{wide_into}
use Rattle.port_circuit.proofs.port_wide.wide_into.Goals as goal

pub returns : goal.returns
unfolding wide_into
returns c =
    rw (← c.circuit_into.ensures) c.words_into.ensures
