-- Three numbers each, one after the other.
use Rattle.circuit_sheet.specs.Numbers.{layers_at}
use Rattle.circuit_sheet.proofs.circuit_numbers.layers_at.Goals as goal

pub returns : goal.returns
unfolding layers_at
returns c = rw (← c.three_at.ensures, ← c.three_at-2.ensures, ← c.three_at-3.ensures)
