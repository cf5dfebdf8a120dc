-- The same operations, in the same order.
use Rattle.profile.specs.F1.{valley_of}
use Rattle.profile.proofs.slot_curves.f1.valley.Goals as goal

pub returns : goal.returns
unfolding valley_of
returns c = rw (← c.sqrt.ensures, ← c.sqrt-2.ensures, ← c.slope-asp.ensures)
