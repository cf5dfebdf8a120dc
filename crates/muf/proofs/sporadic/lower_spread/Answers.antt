-- Each path is the clause that its tests choose.
use Rattle.muf.specs.Sporadic.{sigl4_of}
use Rattle.muf.proofs.sporadic.lower_spread.Goals as goal

pub returns-then-xes-zdif : goal.returns-then-xes-zdif
unfolding sigl4_of
returns-then-xes-zdif c = rw c.if-xes-zdif.true

pub returns-then-xes-zdif-2 : goal.returns-then-xes-zdif-2
unfolding sigl4_of
returns-then-xes-zdif-2 c = rw (c.if-xes-zdif.false, c.if-xes-zdif-2.true)

pub returns : goal.returns
unfolding sigl4_of
returns c = rw (c.if-xes-zdif.false, c.if-xes-zdif-2.false)
