-- The table is the definition's list.
use mathlib.Core.Path.{refl}
use Rattle.reflectrix.specs.Angles.{NANGX}
use Rattle.reflectrix.proofs.scan_angles.nangx.Goals as goal

pub returns : goal.returns
unfolding NANGX
returns c = refl
