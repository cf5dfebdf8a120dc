-- Each path is the clause that the test chooses; the places filled end below 49.
use Rattle.profile.specs.Grid.{upper_of}
use Rattle.profile.proofs.slot_curves.grid.upper.Goals as goal

pub returns-then-f2_only : goal.returns-then-f2_only
unfolding upper_of
returns-then-f2_only c = rw (← c.f2_only.ensures, c.if-f2_only.true, ← c.fill.ensures)

pub returns : goal.returns
unfolding upper_of
returns c = rw (← c.f2_only.ensures, c.if-f2_only.false, ← c.max-m.ensures, ← c.fill-c.ensures, ← c.fill-2.ensures)
