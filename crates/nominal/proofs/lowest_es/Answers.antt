use mathlib.Core.Path.{refl}
use native.Mathlib.Numerals.{add-one}
use Rattle.nominal.specs.Nommuf.{esmuf_of}
use Rattle.nominal.proofs.lowest_es.Goals as goal

pub loop-row-init : goal.loop-row-init
unfolding esmuf_of
loop-row-init c = refl

pub loop-row-preserved : goal.loop-row-preserved
unfolding esmuf_of
loop-row-preserved c = rw (add-one c.loop-row.row-index, c.lower_es-esmuf.ensures, c.loop-row.invariant)
