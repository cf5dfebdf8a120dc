-- Row by row as the code stores them.
use Rattle.losses.specs.Alosfv.{loss_stored, cusp_of}
use Rattle.losses.proofs.Factors.cusp.Goals as goal

pub returns : goal.returns
unfolding cusp_of loss_stored
returns c = rw (← c.cusp_loss-r.ensures, ← c.cusp_loss-t.ensures)
