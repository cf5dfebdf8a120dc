-- The two calls are the definition's.
use Rattle.layers.specs.Owners.{owned_by}
use Rattle.layers.proofs.owners.owned_by.Goals as goal

pub returns : goal.returns
unfolding owned_by
returns c = rw (← c.owner_of.ensures) c.answers_for.ensures
