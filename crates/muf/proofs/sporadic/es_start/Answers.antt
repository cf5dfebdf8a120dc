-- The code's operations are the definition's, in its order.
use Rattle.muf.specs.Sporadic.{start_of}
use mathlib.Core.Path.{refl}
use Rattle.muf.proofs.sporadic.es_start.Goals as goal

pub returns : goal.returns
unfolding start_of
returns c = refl
