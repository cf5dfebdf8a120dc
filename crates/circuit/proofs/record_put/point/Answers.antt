-- The record of the fifteen words, and the other words over its zeros.
use lib.ListN.{length}
use Rattle.circuit.proofs.record_put.Cells.{point-put}
use Rattle.circuit.proofs.record_put.point.Goals as goal

pub returns : goal.returns
returns c =
    let a = c in
    rw (c.words.ensures, c.record.ensures)
    (point-put (length a.args.out.now) a.args.next a.args.ws.now a.args.extra.now a.requires.0)
