-- The code follows the definition; each call is what its contract says.
use Rattle.profile.specs.Lecden.{slot_at}
use Rattle.sounding.specs.Genion.{fvert_at}
use Rattle.sounding.proofs.fvert_at.Goals as goal

pub returns : goal.returns
unfolding fvert_at slot_at
returns c = rw c.slot_at-l.ensures at c.fvert.ensures
