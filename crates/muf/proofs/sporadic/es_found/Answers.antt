-- The code follows the definition; each call is what its contract says.
use Rattle.muf.specs.Sporadic.{es_found_of}
use Rattle.muf.proofs.sporadic.es_found.Goals as goal

pub returns : goal.returns
unfolding es_found_of
returns c = rw (← c.lower_spread.ensures, ← c.min-sigl4.ensures, ← c.atan-del.ensures, ← c.line-line.ensures)
