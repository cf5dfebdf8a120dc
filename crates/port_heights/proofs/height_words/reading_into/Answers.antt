-- The code follows the definition; each call is what its contract says.
use Rattle.port_heights.specs.Words.{reading_into}
use Rattle.port_heights.proofs.height_words.reading_into.Goals as goal

pub returns : goal.returns
unfolding reading_into
returns c = rw (← c.value.ensures, ← c.floats_into.ensures, ← c.kind.ensures, ← c.segment_number.ensures)
