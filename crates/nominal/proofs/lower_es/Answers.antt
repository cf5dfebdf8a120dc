-- The median decides first, then the row's MUF against the lowest so far.
use Rattle.nominal.specs.Nommuf.{es_step}
use Rattle.nominal.proofs.lower_es.Goals as goal

pub returns-then-fs1 : goal.returns-then-fs1
unfolding es_step
returns-then-fs1 c = rw c.if-fs1.true

pub returns : goal.returns
unfolding es_step
returns c = rw (c.if-fs1.false, ← c.hop.ensures, ← c.es_ray-ray.ensures) c.lower.ensures.e
