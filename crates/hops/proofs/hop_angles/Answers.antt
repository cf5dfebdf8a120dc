-- The code follows the definition; each call is what its contract says.
use Rattle.hops.specs.Geometry.{hop_geometry_of}
use Rattle.hops.proofs.hop_angles.Goals as goal

pub returns : goal.returns
unfolding hop_geometry_of
returns c = rw (← c.half_angle-psi.ensures, ← c.cos-cpsi.ensures, ← c.sin-spsi.ensures, ← c.takeoff-del.ensures, ← c.incidence-sphe.ensures, ← c.secant-secp.ensures)
