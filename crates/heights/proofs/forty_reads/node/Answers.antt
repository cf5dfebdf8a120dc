-- Each path is the clause that its tests choose.
use borrow.Author.Tests.{eq-eqb, ne_eqb}
use Rattle.heights.proofs.forty_reads.node.Goals as goal

pub returns-then-ib-eq0 : goal.returns-then-ib-eq0
returns-then-ib-eq0 c = rw (eq-eqb _ _ c.if-ib-eq0.true)

pub returns : goal.returns
returns c = rw (ne_eqb _ _ c.if-ib-eq0.false)
