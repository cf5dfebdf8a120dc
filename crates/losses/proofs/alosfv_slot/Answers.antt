-- The code follows the definition; each call is what its contract says.
use Rattle.losses.specs.Alosfv.{alosfv_of}
use Rattle.losses.proofs.alosfv_slot.Goals as goal

pub returns : goal.returns
unfolding alosfv_of
returns c = rw (← c.e_rows.ensures, ← c.above-f.ensures, ← c.not_below_zeros.ensures, ← c.with_afac.ensures)
