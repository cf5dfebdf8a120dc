use Rattle.waves.specs.SinCos.{cos_of}
use Rattle.waves.proofs.cos.Goals as goal

pub returns : goal.returns
unfolding cos_of
returns c = rw (← c.bits.ensures, ← c.cos_bits.ensures, ← c.number.ensures)
