-- The first test answers, or the second does.
use Rattle.profile.specs.Grid.{f2_only_of}
use Rattle.profile.proofs.slot_curves.grid.f2_only.Goals as goal

pub returns-then-s : goal.returns-then-s
unfolding f2_only_of
returns-then-s c = rw c.if-s.true

pub returns : goal.returns
unfolding f2_only_of
returns c = rw c.if-s.false
