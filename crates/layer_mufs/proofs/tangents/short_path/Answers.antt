-- The code follows the definition; each call is what its contract says.
use Rattle.layer_mufs.specs.Tangents.{beta_of}
use Rattle.layer_mufs.proofs.tangents.short_path.Goals as goal

pub returns : goal.returns
unfolding beta_of
returns c = rw (← c.exp.ensures)
