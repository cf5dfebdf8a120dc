-- The code follows the definition; each call is what its contract says.
use Rattle.losses.specs.Alosfv.{cusp_loss}
use Rattle.losses.proofs.cusp_loss.Goals as goal

pub returns : goal.returns
unfolding cusp_loss
returns c = rw (← c.decayed.ensures, ← c.max-c.ensures, ← c.factor.ensures)
