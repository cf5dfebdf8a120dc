-- The code follows the definition; each call is what its contract says.
use Rattle.layer_mufs.specs.Tangents.{xt_of}
use Rattle.layer_mufs.proofs.tangents.tangent_ratio.Goals as goal

pub returns : goal.returns
unfolding xt_of
returns c = rw (← c.sqrt.ensures)
