-- At most three slots are settled, since `assign` makes no more.
use Rattle.layers.specs.Ionset.{ionset_of}
use Rattle.layers.proofs.slots.Counts.{three-at-most}
use Rattle.layers.proofs.slots.ionset.Goals as goal

pub settle_slots-requires : goal.settle_slots-requires
settle_slots-requires c = rw c.assign-t.ensures (three-at-most _)

pub returns-then-count_taken : goal.returns-then-count_taken
unfolding ionset_of
returns-then-count_taken c = rw (← c.count_taken.ensures, c.if-count_taken.true, ← c.assign-t.ensures, ← c.settle_slots.ensures, ← c.disown.ensures)

pub returns : goal.returns
unfolding ionset_of
returns c = rw (← c.count_taken.ensures, c.if-count_taken.false)
