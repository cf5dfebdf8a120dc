-- Field by field.
use Rattle.port_circuit.specs.Words.{circuit_of_words}
use Rattle.port_circuit.proofs.circuit_of.Goals as goal

pub returns : goal.returns
unfolding circuit_of_words
returns c = rw (← c.words_from.ensures, ← c.words_from-2.ensures)
