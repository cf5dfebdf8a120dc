-- Each path is the clause that its tests choose; the line is what its contract says.
use Rattle.readings.specs.Scan.{segment_of}
use Rattle.readings.proofs.segment.Goals as goal

pub returns-then-probe-from1 : goal.returns-then-probe-from1
unfolding segment_of
returns-then-probe-from1 c = rw (c.if-d.true, c.if-from0-probe.true, c.if-probe-from1.true, c.interpolated.ensures)

pub returns-then-from0-probe : goal.returns-then-from0-probe
unfolding segment_of
returns-then-from0-probe c = rw (c.if-d.true, c.if-from0-probe.true, c.if-probe-from1.false)

pub returns-then-d : goal.returns-then-d
unfolding segment_of
returns-then-d c = rw (c.if-d.true, c.if-from0-probe.false, c.interpolated-then-d.ensures)

pub returns-then-probe-from0 : goal.returns-then-probe-from0
unfolding segment_of
returns-then-probe-from0 c = rw (c.if-d.false, c.if-d-2.true, c.if-probe-from0.true)

pub returns-then-d-2 : goal.returns-then-d-2
unfolding segment_of
returns-then-d-2 c = rw (c.if-d.false, c.if-d-2.true, c.if-probe-from0.false)

pub returns-then-probe-from1-2 : goal.returns-then-probe-from1-2
unfolding segment_of
returns-then-probe-from1-2 c = rw (c.if-d.false, c.if-d-2.false, c.if-from0-probe-2.true, c.if-probe-from1-2.true, c.interpolated-then-probe-from1-2.ensures)

pub returns-else-probe-from1-2 : goal.returns-else-probe-from1-2
unfolding segment_of
returns-else-probe-from1-2 c = rw (c.if-d.false, c.if-d-2.false, c.if-from0-probe-2.true, c.if-probe-from1-2.false)

pub returns-else-from0-probe-2 : goal.returns-else-from0-probe-2
unfolding segment_of
returns-else-from0-probe-2 c = rw (c.if-d.false, c.if-d-2.false, c.if-from0-probe-2.false)
