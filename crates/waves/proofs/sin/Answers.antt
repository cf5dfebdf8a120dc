use Rattle.waves.specs.SinCos.{sin_of}
use Rattle.waves.proofs.sin.Goals as goal

pub returns : goal.returns
unfolding sin_of
returns c = rw (← c.bits.ensures, ← c.sin_bits.ensures, ← c.number.ensures)
