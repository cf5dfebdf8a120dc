-- The code follows the definition; each call is what its contract says.
use Rattle.hops.specs.Geometry.{del_of}
use Rattle.hops.proofs.takeoff.Goals as goal

pub returns : goal.returns
unfolding del_of
returns c = rw (← c.atan-phe.ensures)
