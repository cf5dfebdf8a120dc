-- The code's operations are the definition's, in its order.
use Rattle.losses.specs.Alosfv.{factor_of}
use mathlib.Core.Path.{refl}
use Rattle.losses.proofs.factor.Goals as goal

pub returns : goal.returns
unfolding factor_of
returns c = refl
