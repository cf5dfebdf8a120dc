-- The code follows the definition; each call is what its contract says.
use Rattle.layer_mufs.specs.Lines.{f1_found_of}
use Rattle.layer_mufs.proofs.f1_found.Goals as goal

pub returns : goal.returns
unfolding f1_found_of
returns c = rw (← c.bent-b.ensures, ← c.tenth-sig.ensures, ← c.line.ensures)
