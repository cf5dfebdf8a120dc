-- Column by column.
use Rattle.port_ionogram.specs.Layouts.{ionogram_of}
use Rattle.port_ionogram.proofs.port_layouts.ionogram_of.Goals as goal

pub returns : goal.returns
unfolding ionogram_of
returns c = rw (← c.floats.ensures, ← c.floats-2.ensures, ← c.floats-3.ensures, ← c.floats-4.ensures, ← c.words_from.ensures)
