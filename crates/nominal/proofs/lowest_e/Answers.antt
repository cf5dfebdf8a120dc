use mathlib.Core.Path.{refl}
use native.Mathlib.Numerals.{add-one}
use Rattle.nominal.specs.Nommuf.{ec_of}
use Rattle.nominal.proofs.lowest_e.Goals as goal

pub loop-p-init : goal.loop-p-init
unfolding ec_of
loop-p-init c = refl

pub loop-p-preserved : goal.loop-p-preserved
unfolding ec_of
loop-p-preserved c = rw (add-one c.loop-p.p-index, c.lower-ec.ensures.e, c.loop-p.invariant)
