-- The table is the definition's list.
use mathlib.Core.Path.{refl}
use Rattle.reflectrix.specs.Angles.{ANG}
use Rattle.reflectrix.proofs.scan_angles.angle.Goals as goal

pub returns : goal.returns
unfolding ANG
returns c = refl
