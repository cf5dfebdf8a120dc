-- The code follows the definition; each call is what its contract says.
use Rattle.hops.specs.Geometry.{hop_ratio_of, sphe_of}
use Rattle.hops.proofs.hop_ratio.Goals as goal

pub returns : goal.returns
unfolding hop_ratio_of sphe_of
returns c = rw (← c.max-dele.ensures, ← c.incidence.ensures, ← c.asin-phe.ensures)
