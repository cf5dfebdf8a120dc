-- The code follows the definition; each call is what its contract says.
use Rattle.hops.specs.Geometry.{sphe_of}
use Rattle.hops.proofs.incidence.Goals as goal

pub returns : goal.returns
unfolding sphe_of
returns c = rw (← c.cos-cdel.ensures)
