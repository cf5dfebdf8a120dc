-- The circuit of a text has one point to five and shape 0 or 1, so that the writer takes it.
use Prim.Native.Nat.{◌≤◌}
use native.Mathlib.Omega.{arith}
use borrow.Author.Tests.{le-leb}
use lib.ListN.{length}
use Rattle.records.specs.Record.{form64}
use Rattle.circuit.specs.Written.{size_of, write_answer_of}
use Rattle.circuit.proofs.circuit_write.Cells.{records_most}
use Rattle.composing.specs.Laws.{TextWritten}
use Rattle.composing.proofs.compose_laws.Held.{held-text}

pub text-written : TextWritten
unfolding write_answer_of
text-written text out c e room =
    let t = held-text text c e in
    let s = t.held in
    let size : size_of form64 c ≤ length out = omega (arith, s.km, records_most c, room) in
    rw (le-leb _ _ t.point, le-leb _ _ s.km, le-leb _ _ s.shape, le-leb _ _ size)
