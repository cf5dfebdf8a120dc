-- The code follows the definition; each call is what its contract says.
use Rattle.hops.specs.Geometry.{secp_of}
use Rattle.muf.specs.Sporadic.{ray_of}
use Rattle.muf.proofs.sporadic.es_ray.Goals as goal

pub returns : goal.returns
unfolding ray_of secp_of
returns c = rw (← c.cos.ensures, ← c.sin.ensures, ← c.sqrt-cdel.ensures, ← c.secant-secp.ensures)
