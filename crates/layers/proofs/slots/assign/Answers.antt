-- Each path is the clause that its tests on km choose.
use Rattle.layers.specs.Ionset.{assigned_of}
use borrow.Author.Tests.{le-leb, lt-leb}
use Rattle.layers.proofs.slots.assign.Goals as goal

pub returns-then-s-le1 : goal.returns-then-s-le1
unfolding assigned_of
returns-then-s-le1 c = rw (le-leb _ _ c.if-s-le1.true)

pub returns-then-s-le3 : goal.returns-then-s-le3
unfolding assigned_of
returns-then-s-le3 c = rw (lt-leb _ _ c.if-s-le1.false, le-leb _ _ c.if-s-le3.true) c.two_slots.ensures

pub returns : goal.returns
unfolding assigned_of
returns c = rw (lt-leb _ _ c.if-s-le1.false, lt-leb _ _ c.if-s-le3.false) c.three_slots.ensures
