-- The first refusal is the answer.
use Rattle.std.proofs.lemmas.Result.{err_from_is_err_and}
use Rattle.circuit_sheet.specs.CircuitSheet.{scanned_of, circuit_sheet_of}
use Rattle.circuit_sheet.proofs.of_circuit.Goals as goal

pub returns-in_err-nang : goal.returns-in_err-nang
unfolding circuit_sheet_of
returns-in_err-nang c =
    let p = err_from_is_err_and c.from_residual.result c.from_residual.ensures.1 in
    rw (p.1, p.2, ← c.number.ensures, ← c.number-2.ensures, ← c.in_err-nang.ensures)

pub returns-in_err-m : goal.returns-in_err-m
unfolding circuit_sheet_of scanned_of
returns-in_err-m c =
    let p = err_from_is_err_and c.from_residual-in_err-m.result c.from_residual-in_err-m.ensures.1 in
    rw (p.1, p.2, ← c.number.ensures, ← c.number-2.ensures, ← c.in_ok-nang.ensures, ← c.slots-s.ensures, ← c.in_err-m.ensures)

pub returns : goal.returns
unfolding circuit_sheet_of scanned_of
returns c = rw (← c.number.ensures, ← c.number-2.ensures, ← c.in_ok-nang.ensures, ← c.slots-s.ensures, ← c.in_ok-m.ensures, ← c.answered.ensures)
