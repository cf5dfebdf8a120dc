-- A byte is the line feed or it is not.
use Rattle.std.proofs.Common.{arith}
use Rattle.std.proofs.lemmas.Grind.{common_steps}
use Rattle.first_difference.specs.Closed.{feed_of}
use Rattle.first_difference.proofs.feed.Goals as goal

pub returns : goal.returns
unfolding feed_of
returns c = grind (arith, common_steps)
