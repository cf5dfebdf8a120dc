-- Each path is the clause that its tests choose; each call is what its contract says.
use Rattle.losses.specs.Alosfv.{above_of}
use Rattle.losses.proofs.Factors.above.Goals as goal

pub returns-then-s-i1 : goal.returns-then-s-i1
unfolding above_of
returns-then-s-i1 c = rw (c.if-s-i1.true, ← c.without_f1.ensures)

pub returns : goal.returns
unfolding above_of
returns c = rw (c.if-s-i1.false, ← c.with_f1.ensures)
