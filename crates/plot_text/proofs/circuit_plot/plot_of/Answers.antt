-- Each call is given what the one before answered; a file that the reader refuses has no sheet either.
use Rattle.std.proofs.lemmas.Result.{err_from_is_err_and}
use Rattle.circuit_sheet.specs.CircuitSheet.{sheet_of}
use Rattle.plot_text.specs.CircuitPlot.{plot_of}
use Rattle.plot_text.proofs.circuit_plot.plot_of.Goals as goal

pub returns-in_err-c : goal.returns-in_err-c
unfolding plot_of sheet_of
returns-in_err-c c =
    let p = err_from_is_err_and c.from_residual.result c.from_residual.ensures.1 in
    rw (p.1, p.2, ← c.in_err-c.ensures)

pub returns-in_err-sheet : goal.returns-in_err-sheet
unfolding plot_of
returns-in_err-sheet c =
    let p = err_from_is_err_and c.from_residual-in_err-sheet.result c.from_residual-in_err-sheet.ensures.1 in
    rw (p.1, p.2, ← c.in_err-sheet.ensures)

pub returns : goal.returns
unfolding plot_of
returns c = rw (← c.in_ok-sheet.ensures, ← c.in_ok-c.ensures, ← c.slots.ensures, ← c.profiles-profiles.ensures)
