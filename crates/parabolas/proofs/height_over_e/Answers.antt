-- The code follows the definition; each call is what its contract says.
use Rattle.parabolas.specs.Bendy.{height_over_e}
use Rattle.parabolas.proofs.height_over_e.Goals as goal

pub returns : goal.returns
unfolding height_over_e
returns c = rw (← c.bendy_at-bend.ensures, ← c.pen_at-pass.ensures)
