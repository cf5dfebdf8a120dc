-- The code's operations are the definition's, in its order.
use borrow.Author.Rules.{rules}
use Rattle.layers.specs.State.{profile_only}
use Rattle.layers.proofs.profile_only.Goals as goal

pub returns : goal.returns
unfolding profile_only
returns c = search rules
