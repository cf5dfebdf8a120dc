-- Field by field.
use Rattle.profile.specs.F1.{reshaped_of}
use mathlib.Core.Path.{refl}
use Rattle.profile.proofs.slot_curves.f1.reshaped.Goals as goal

pub returns : goal.returns
unfolding reshaped_of
returns c = refl
