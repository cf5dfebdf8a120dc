-- The lower part, the top, the upper part.
use Rattle.profile.specs.Grid.{heights_of}
use Rattle.profile.proofs.slot_curves.grid.heights.Goals as goal

pub returns : goal.returns
unfolding heights_of
returns c = rw (← c.lower-l.ensures, ← c.upper.ensures)
