-- The code follows the definition; each call is what its contract says.
use Rattle.layer_mufs.specs.Lines.{bent_of}
use Rattle.layer_mufs.proofs.bent.Goals as goal

pub returns : goal.returns
unfolding bent_of
returns c = rw (← c.rounds.ensures)
