-- The code follows the definition; each call is what its contract says.
use Rattle.sounding.specs.Grid.{fvert_of}
use Rattle.sounding.proofs.sounding_grid.fvert.Goals as goal

pub returns : goal.returns
unfolding fvert_of
returns c = rw (← c.e_grid.ensures, ← c.nose_grid.ensures, ← c.f_grid.ensures)
