-- The code follows the definition; each call is what its contract says.
use Rattle.losses.specs.Alosfv.{decay_of}
use Rattle.losses.proofs.decayed.Goals as goal

pub returns : goal.returns
unfolding decay_of
returns c = rw (← c.max-zexp.ensures, ← c.exp.ensures)
