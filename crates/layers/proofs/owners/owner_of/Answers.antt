-- `ielect` first, then what is stored.
use Rattle.layers.specs.Owners.{owner_of}
use Rattle.layers.proofs.owners.owner_of.Goals as goal

pub returns-then-s : goal.returns-then-s
unfolding owner_of
returns-then-s c = rw c.if-s.true

pub returns : goal.returns
unfolding owner_of
returns c = rw c.if-s.false c.unsupplied.ensures
