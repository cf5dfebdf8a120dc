-- Each path is the branch that its tests choose; each call is what its contract says.
use Rattle.heights.specs.Exact.{seg_of}
use Rattle.heights.proofs.height_integral.seg.Goals as goal

pub returns-then-dz : goal.returns-then-dz
unfolding seg_of
returns-then-dz c = rw c.if-dz.true

pub returns-then-abs : goal.returns-then-abs
unfolding seg_of
returns-then-abs c = rw (c.if-dz.false, ← c.abs.ensures, c.if-abs.true, ← c.min.ensures, ← c.sqrt.ensures)

pub returns : goal.returns
unfolding seg_of
returns c = rw (c.if-dz.false, ← c.abs.ensures, c.if-abs.false, ← c.max.ensures, ← c.sqrt-lower.ensures, ← c.max-2.ensures, ← c.sqrt-upper.ensures)
