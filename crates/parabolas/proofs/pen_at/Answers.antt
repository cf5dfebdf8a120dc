-- The code follows the definition; each call is what its contract says.
use Rattle.parabolas.specs.Bendy.{pen_at}
use Rattle.parabolas.proofs.pen_at.Goals as goal

pub returns : goal.returns
unfolding pen_at
returns c = rw (← c.max-x.ensures, ← c.ln-l.ensures)
