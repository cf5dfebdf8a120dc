-- Ten reads; each index is below its table's length.
use Rattle.profile.specs.Lecden.{slot_at}
use mathlib.Core.Path.{refl}
use Rattle.profile.proofs.slot_at.Goals as goal

pub returns : goal.returns
unfolding slot_at
returns c = refl
