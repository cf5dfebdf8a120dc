-- Each path is the clause that its tests choose.
use borrow.Author.Tests.{eq-eqb, ne_eqb}
use Rattle.circuit.proofs.circuit_write.next_in.Goals as goal

pub returns-then-i-n : goal.returns-then-i-n
returns-then-i-n c = rw (eq-eqb _ _ c.if-i-n.true)

pub returns : goal.returns
returns c = rw (ne_eqb _ _ c.if-i-n.false)
