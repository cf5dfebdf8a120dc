-- The rows, then the marks.
use Rattle.port_ionogram.proofs.ionogram_words.marked_into.Goals as goal

pub returns : goal.returns
returns c = rw (← c.ionogram_into.ensures) c.marks_into.ensures
