-- The part that is written.
use Rattle.port_circuit.proofs.Copies.{written-part}
use Rattle.port_circuit.proofs.words_into.Goals as goal

pub returns : goal.returns
returns c = rw c.copy_from_slice.ensures.after (written-part _ _ _)
