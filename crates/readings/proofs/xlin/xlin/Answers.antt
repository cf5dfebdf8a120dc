-- Each path is the clause that its tests choose; each call is what its contract says.
use Rattle.readings.specs.Xlin.{xlin_of, xlin_segment_of}
use Rattle.readings.proofs.xlin.xlin.Goals as goal

pub returns-then-xn-x : goal.returns-then-xn-x
unfolding xlin_of xlin_segment_of
returns-then-xn-x c = rw c.if-xn-x.true

pub returns : goal.returns
unfolding xlin_of xlin_segment_of
returns c = rw c.if-xn-x.false c.profile_interpolate.ensures
