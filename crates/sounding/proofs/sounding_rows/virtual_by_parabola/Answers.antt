-- The code follows the definition; each call is what its contract says.
use native.Mathlib.Nat.{add-zero}
use Rattle.parabolas.specs.Bendy.{bendy_of, pen_of, height_over_e}
use Rattle.sounding.specs.Rows.{virtual_by_parabola}
use Rattle.sounding.proofs.sounding_rows.virtual_by_parabola.Goals as goal

pub returns : goal.returns
unfolding virtual_by_parabola bendy_of pen_of height_over_e
returns c = rw (add-zero _, c.height_over_e.ensures)
