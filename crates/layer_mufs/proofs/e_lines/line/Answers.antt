-- The code follows the definition; each call is what its contract says.
use Rattle.layer_mufs.specs.LayerLine.{layer_line_of}
use borrow.Author.Rules.{sfits_of}
use mir.Facts.{to_z-of_z}
use Rattle.layer_mufs.proofs.e_lines.line.Goals as goal

pub returns : goal.returns
unfolding layer_line_of
returns c = rw (← c.trunc-nhopmf.ensures, to_z-of_z {z = c.trunc-nhopmf.result} (sfits_of c.trunc-nhopmf.type_inv))
