-- The code follows the definition; each call is what its contract says.
use Rattle.sounding.specs.Grid.{e_grid}
use Rattle.sounding.proofs.sounding_grid.e_grid.Goals as goal

pub returns : goal.returns
unfolding e_grid
returns c = rw (← c.sqrt.ensures, ← c.fill.ensures)
