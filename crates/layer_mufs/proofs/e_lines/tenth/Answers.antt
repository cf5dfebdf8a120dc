-- The code follows the definition; each call is what its contract says.
use Rattle.layer_mufs.specs.LayerLine.{tenth_of}
use Rattle.layer_mufs.proofs.e_lines.tenth.Goals as goal

pub returns : goal.returns
unfolding tenth_of
returns c = rw (← c.max.ensures)
