-- The numbers, then the words.
use Rattle.port_ionogram.specs.Layouts.{marks_into}
use Rattle.port_ionogram.proofs.port_layouts.marks_into.Goals as goal

pub returns : goal.returns
unfolding marks_into
returns c = rw (← c.mark_numbers-numbers.ensures) c.words_into.ensures
