-- The five columns one after the other.
use Rattle.port_ionogram.specs.Layouts.{ionogram_into}
use Rattle.port_ionogram.proofs.port_layouts.ionogram_into.Goals as goal

pub returns : goal.returns
unfolding ionogram_into
returns c = rw (← c.floats_into.ensures, ← c.floats_into-2.ensures, ← c.floats_into-3.ensures, ← c.floats_into-4.ensures, ← c.words_into.ensures)
