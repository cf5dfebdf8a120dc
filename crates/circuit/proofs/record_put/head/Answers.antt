-- The code follows the definition; each call is what its contract says.
use mathlib.Core.Path.{◌∙◌}
use Rattle.circuit.proofs.record_put.Cells.{head-put}
use Rattle.circuit.proofs.record_put.head.Goals as goal

pub returns : goal.returns
returns c =
    let a = c in
    rw a.requires.1 at c.record.ensures
    ∙ head-put a.args.o a.args.c a.args.next a.requires.2 a.requires.3
