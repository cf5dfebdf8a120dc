-- The code follows the definition; each call is what its contract says.
use Rattle.parabolas.specs.Bendy.{height_over_e}
use Rattle.layer_mufs.specs.Lines.{parabolic_of}
use Rattle.layer_mufs.proofs.parabolic.Goals as goal

pub returns : goal.returns
unfolding parabolic_of height_over_e
returns c = rw (c.height_over_e-hp.ensures, ← c.sqrt-root.ensures)
