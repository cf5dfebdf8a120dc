-- The reader's answer decides; a circuit has at most five points.
use mathlib.Core.Path.{sym}
use Rattle.std.proofs.lemmas.Result.{err_from_is_err_and}
use Rattle.records.specs.Record.{form64}
use Rattle.records.proofs.Lists.{fit64}
use Rattle.circuit.proofs.Answers.{small_read}
use Rattle.circuit_sheet.specs.CircuitSheet.{sheet_of}
use Rattle.circuit_sheet.proofs.of_file.Goals as goal

pub returns-in_err-c : goal.returns-in_err-c
unfolding sheet_of
returns-in_err-c c =
    let p = err_from_is_err_and c.from_residual.result c.from_residual.ensures.1 in
    rw (p.1, p.2, ← c.in_err-c.ensures)

pub of_circuit-requires : goal.of_circuit-requires
of_circuit-requires c = (small_read form64 fit64 c.args.file.now c.in_ok-c.c (sym c.in_ok-c.ensures)).0

pub returns : goal.returns
unfolding sheet_of
returns c = rw (← c.in_ok-c.ensures) c.of_circuit.ensures
