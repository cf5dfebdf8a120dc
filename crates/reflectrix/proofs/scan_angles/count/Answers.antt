-- Each path is the clause that its tests choose; each call is what its contract says.
use Rattle.reflectrix.specs.Angles.{angle_count_of}
use Rattle.reflectrix.proofs.scan_angles.count.Goals as goal

pub returns-then-angle-amind : goal.returns-then-angle-amind
unfolding angle_count_of
returns-then-angle-amind c = rw (c.if-amind.true, ← c.angle.ensures, c.if-angle-amind.true, ← c.raised.ensures)

pub returns-then-amind : goal.returns-then-amind
unfolding angle_count_of
returns-then-amind c = rw (c.if-amind.true, ← c.angle.ensures, c.if-angle-amind.false)

pub returns : goal.returns
unfolding angle_count_of
returns c = rw c.if-amind.false
