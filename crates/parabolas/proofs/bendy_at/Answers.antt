-- The code follows the definition; each call is what its contract says.
use Rattle.parabolas.specs.Bendy.{bendy_at}
use Rattle.parabolas.proofs.bendy_at.Goals as goal

pub returns : goal.returns
unfolding bendy_at
returns c = rw (← c.min-x.ensures, ← c.ln-l.ensures)
