-- Each path is the clause that its tests choose; each call is what its contract says.
use Rattle.sounding.specs.Grid.{f_grid}
use Rattle.sounding.proofs.sounding_grid.f_grid.Goals as goal

pub returns-then-fi1 : goal.returns-then-fi1
unfolding f_grid
returns-then-fi1 c = rw (c.if-fi1.true, ← c.fill.ensures)

pub returns : goal.returns
unfolding f_grid
returns c = rw (c.if-fi1.false, ← c.fill-g.ensures, ← c.fill-2.ensures)
