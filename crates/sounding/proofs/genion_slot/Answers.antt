-- The code follows the definition; each call is what its contract says.
use Rattle.sounding.specs.Genion.{genion_with}
use Rattle.sounding.proofs.genion_slot.Goals as goal

pub returns : goal.returns
unfolding genion_with
returns c = rw (← c.fvert_at-fv.ensures, ← c.rows.ensures)
