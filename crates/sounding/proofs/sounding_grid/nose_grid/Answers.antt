-- The code's operations are the definition's, in its order.
use Rattle.sounding.specs.Grid.{nose_grid}
use mathlib.Core.Path.{refl}
use Rattle.sounding.proofs.sounding_grid.nose_grid.Goals as goal

pub returns : goal.returns
unfolding nose_grid
returns c = refl
