use Rattle.deciles.specs.F2dis.{spread_of}
use Rattle.deciles.proofs.spread.Goals as goal

pub returns : goal.returns
unfolding spread_of
returns c = rw (← c.abs-sig.ensures, ← c.max.ensures)
