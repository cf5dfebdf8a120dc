-- Each path is the clause that its tests choose; each call is what its contract says.
use Rattle.readings.specs.Cursor.{read_on_of}
use borrow.Author.Tests.{lt-ltb, le-ltb}
use Rattle.readings.proofs.Profile.read_on.Goals as goal

pub returns-then-zi-htr : goal.returns-then-zi-htr
unfolding read_on_of
returns-then-zi-htr c = rw c.if-zi-htr.true

pub returns-then-on-lt49 : goal.returns-then-on-lt49
unfolding read_on_of
returns-then-on-lt49 c = rw (c.if-zi-htr.false, ← c.climb-on.ensures, lt-ltb _ _ c.if-on-lt49.true, c.interpolated-line.ensures)

pub returns : goal.returns
unfolding read_on_of
returns c = rw (c.if-zi-htr.false, ← c.climb-on.ensures, le-ltb _ _ c.if-on-lt49.false)
