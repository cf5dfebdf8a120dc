-- The file of a text is read back as its circuit, by the law of the circuit file.
use Rattle.records.specs.Record.{form64}
use Rattle.circuit.specs.Written.{size_of}
use Rattle.circuit.proofs.circuit_laws.Paper.{paper-laws}
use Rattle.composing.specs.Laws.{TextReadBack}
use Rattle.composing.proofs.compose_laws.Written.{text-written}
use Rattle.composing.proofs.compose_laws.Held.{held-text}

pub text-read-back : TextReadBack
text-read-back text out c e room =
    let h = (held-text text c e).held in
    paper-laws.read_same c out (size_of form64 c) h.whole (text-written text out c e room) h.past
