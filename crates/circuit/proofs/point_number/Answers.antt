-- The word is there, since there are 75.
use Rattle.circuit.specs.Point.{point_number}
use Rattle.circuit.proofs.point_number.Goals as goal

pub returns : goal.returns
unfolding point_number
returns c = rw (← c.number.ensures)
