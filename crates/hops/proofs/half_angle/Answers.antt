-- Each path is the clause that its tests choose.
use Rattle.hops.proofs.half_angle.Goals as goal

pub returns-then-split_first : goal.returns-then-split_first
returns-then-split_first c = rw c.if-split_first.true

pub returns : goal.returns
returns c = rw c.if-split_first.false
