-- The first test that holds chooses the clause.
use Rattle.profile.specs.Marks.{first_of}
use Rattle.profile.proofs.shapes.first.Goals as goal

pub returns-then-c-density : goal.returns-then-c-density
unfolding first_of
returns-then-c-density c = rw c.if-c-density.true

pub returns-then-c-density-2 : goal.returns-then-c-density-2
unfolding first_of
returns-then-c-density-2 c = rw (c.if-c-density.false, c.if-c-density-2.true)

pub returns-then-c-density-3 : goal.returns-then-c-density-3
unfolding first_of
returns-then-c-density-3 c = rw (c.if-c-density.false, c.if-c-density-2.false, c.if-c-density-3.true)

pub returns-then-c-density-4 : goal.returns-then-c-density-4
unfolding first_of
returns-then-c-density-4 c = rw (c.if-c-density.false, c.if-c-density-2.false, c.if-c-density-3.false, c.if-c-density-4.true)

pub returns : goal.returns
unfolding first_of
returns c = rw (c.if-c-density.false, c.if-c-density-2.false, c.if-c-density-3.false, c.if-c-density-4.false)
