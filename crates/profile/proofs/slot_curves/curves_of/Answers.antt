-- Field by field.
use Rattle.profile.specs.Draw.{curves_of}
use Rattle.profile.proofs.slot_curves.curves_of.Goals as goal

pub returns : goal.returns
unfolding curves_of
returns c = rw (← c.max-hb1.ensures)
