-- Each path is the clause that its tests choose; each call is what its contract says.
use Rattle.layer_mufs.specs.Tangents.{fx1_of}
use Rattle.layer_mufs.proofs.tangents.f1_tangent.Goals as goal

pub returns-then-l : goal.returns-then-l
unfolding fx1_of
returns-then-l c = rw (c.if-l.true, ← c.tangent_ratio-xt1.ensures)

pub returns : goal.returns
unfolding fx1_of
returns c = rw (c.if-l.false)
