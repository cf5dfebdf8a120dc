-- The code follows the definition; each call is what its contract says.
use Rattle.muf.specs.Curmuf.{found_muf_of}
use Rattle.muf.proofs.finish.Goals as goal

pub returns : goal.returns
unfolding found_muf_of
returns c = rw (← c.es_line-x.ensures, ← c.hour-hour.ensures)
