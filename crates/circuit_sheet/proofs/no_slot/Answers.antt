-- Rows of zeros, and no marks.
use Rattle.circuit_sheet.proofs.no_slot.Goals as goal

pub returns : goal.returns
returns c = rw (c.no_rows.ensures, c.no_marks.ensures)
