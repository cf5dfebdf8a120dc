-- The code's operations are the definition's, in its order.
use Rattle.hops.specs.Rounds.{sph_of}
use mathlib.Core.Path.{refl}
use Rattle.hops.proofs.correction.Goals as goal

pub returns : goal.returns
unfolding sph_of
returns c = refl
