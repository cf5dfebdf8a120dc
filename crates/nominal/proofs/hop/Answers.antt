use Rattle.nominal.specs.Nommuf.{hop_of}
use Rattle.nominal.proofs.hop.Goals as goal

pub returns : goal.returns
unfolding hop_of
returns c = rw (← c.sqrt-dmax.ensures)
