-- The code follows the definition; each call is what its contract says.
use Rattle.muf.specs.Hour.{zero_hour}
use Rattle.muf.proofs.zero_hour.Goals as goal

pub returns : goal.returns
unfolding zero_hour
returns c = rw (← c.zero_line-z.ensures)
