-- The three stores are those of the definition.
use Rattle.profile.specs.Lecden.{slot_written}
use mathlib.Core.Path.{refl}
use Rattle.profile.proofs.write_slot.Goals as goal

pub returns : goal.returns
unfolding slot_written
returns c = refl
