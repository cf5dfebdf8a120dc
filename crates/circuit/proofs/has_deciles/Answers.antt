-- The code follows the definition; each call is what its contract says.
use Rattle.circuit.proofs.has_deciles.Goals as goal

pub returns : goal.returns
returns c = rw c.all_zero.ensures
