-- Each path is the clause that its tests choose; each call is what its contract says.
use Rattle.muf.specs.Sporadic.{es_line_of}
use Rattle.muf.proofs.sporadic.es_line.Goals as goal

pub returns-then-a : goal.returns-then-a
unfolding es_line_of
returns-then-a c = rw (c.if-a.true, ← c.zero_line-line.ensures)

pub returns : goal.returns
unfolding es_line_of
returns c = rw (c.if-a.false, ← c.es_found.ensures)
