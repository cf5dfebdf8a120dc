-- The code follows the definition; each call is what its contract says.
use Rattle.layer_mufs.specs.LayerLine.{e_found_of}
use Rattle.layer_mufs.proofs.e_lines.e_found.Goals as goal

pub returns : goal.returns
unfolding e_found_of
returns c = rw (← c.tenth-sig.ensures, ← c.line.ensures)
