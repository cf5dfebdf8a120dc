-- Each path is the clause that its tests choose; each call is what its contract says.
use Rattle.readings.specs.Scan.{reading_of}
use Rattle.readings.proofs.Profile.read_by_scan.Goals as goal

pub returns-then-zi-htr : goal.returns-then-zi-htr
unfolding reading_of
returns-then-zi-htr c = rw c.if-zi-htr.true

pub returns : goal.returns
unfolding reading_of
returns c = rw (c.if-zi-htr.false, ← c.scan.ensures)
