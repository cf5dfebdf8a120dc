use Rattle.deciles.specs.F2dis.{classical_of}
use Rattle.deciles.proofs.classical.Goals as goal

pub returns : goal.returns
unfolding classical_of
returns c = rw (← c.max.ensures)
