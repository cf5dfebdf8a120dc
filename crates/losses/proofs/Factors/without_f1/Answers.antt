-- The code follows the definition; each call is what its contract says.
use Rattle.losses.specs.Alosfv.{without_f1}
use Rattle.losses.proofs.Factors.without_f1.Goals as goal

pub returns : goal.returns
unfolding without_f1
returns c = rw (← c.cusp.ensures, ← c.tail_rows.ensures)
