-- The code's operations are the definition's, in its order.
use Rattle.losses.specs.Alosfv.{with_afac}
use mathlib.Core.Path.{refl}
use Rattle.losses.proofs.with_afac.Goals as goal

pub returns : goal.returns
unfolding with_afac
returns c = refl
