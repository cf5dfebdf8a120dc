-- Each number is that of its bits.
use Rattle.circuit_sheet.specs.Numbers.{path_of}
use Rattle.circuit_sheet.proofs.circuit_numbers.path.Goals as goal

pub returns : goal.returns
unfolding path_of
returns c = rw (← c.number.ensures, ← c.number-2.ensures, ← c.number-3.ensures, ← c.number-4.ensures)
