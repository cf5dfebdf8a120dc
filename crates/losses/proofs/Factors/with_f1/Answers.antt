-- The code follows the definition; each call is what its contract says.
use Rattle.losses.specs.Alosfv.{with_f1}
use Rattle.losses.proofs.Factors.with_f1.Goals as goal

pub returns : goal.returns
unfolding with_f1
returns c = rw (← c.cusp.ensures, ← c.tail_rows-g.ensures, ← c.cusp-2.ensures, ← c.tail_rows.ensures)
