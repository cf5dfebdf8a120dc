-- The code follows the definition; each call is what its contract says.
use Rattle.port_heights.specs.Words.{heights_into}
use Rattle.port_heights.proofs.height_words.heights_into.Goals as goal

pub returns : goal.returns
unfolding heights_into
returns c = rw (← c.floats_into.ensures)
