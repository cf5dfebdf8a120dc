-- The code follows the definition; each call is what its contract says.
use Rattle.port_heights.specs.Words.{found_into}
use Rattle.port_heights.proofs.height_words.found_into.Goals as goal

pub returns : goal.returns
unfolding found_into
returns c = rw (← c.floats_into.ensures)
