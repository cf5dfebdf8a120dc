-- The code follows the definition; each call is what its contract says.
use Rattle.hops.specs.Rounds.{settled_of}
use Rattle.hops.proofs.settled.Goals as goal

pub returns : goal.returns
unfolding settled_of
returns c = rw (← c.abs.ensures)
