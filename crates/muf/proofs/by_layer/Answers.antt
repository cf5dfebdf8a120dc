-- Each path is the clause that its tests choose.
use Rattle.muf.specs.Hour.{mode_of}
use Rattle.muf.proofs.by_layer.Goals as goal

pub returns-then-e-allmuf : goal.returns-then-e-allmuf
unfolding mode_of
returns-then-e-allmuf c = rw c.if-e-allmuf.true

pub returns-then-f1-allmuf : goal.returns-then-f1-allmuf
unfolding mode_of
returns-then-f1-allmuf c = rw (c.if-e-allmuf.false, c.if-f1-allmuf.true)

pub returns : goal.returns
unfolding mode_of
returns c = rw (c.if-e-allmuf.false, c.if-f1-allmuf.false)
