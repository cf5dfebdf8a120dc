use Rattle.arcs.specs.Atan.{atan_of}
use Rattle.arcs.proofs.atan.Goals as goal

pub returns : goal.returns
unfolding atan_of
returns c = rw (← c.bits.ensures, ← c.atan_bits.ensures, ← c.number.ensures)
