use Rattle.arcs.specs.Asin.{asin_of}
use Rattle.arcs.proofs.asin.Goals as goal

pub returns : goal.returns
unfolding asin_of
returns c = rw (← c.bits.ensures, ← c.asin_bits.ensures, ← c.number.ensures)
