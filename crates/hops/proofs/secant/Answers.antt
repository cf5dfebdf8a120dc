-- The code follows the definition; each call is what its contract says.
use Rattle.hops.specs.Geometry.{secp_of}
use Rattle.hops.proofs.secant.Goals as goal

pub returns : goal.returns
unfolding secp_of
returns c = rw (← c.sqrt.ensures)
