-- The shape is tested as the definition does.
use borrow.Author.Tests.{eq-eqb, ne_eqb}
use Rattle.circuit_sheet.specs.Numbers.{shaped_of}
use Rattle.circuit_sheet.proofs.circuit_numbers.shaped.Goals as goal

pub returns-then-shape-eq0 : goal.returns-then-shape-eq0
unfolding shaped_of
returns-then-shape-eq0 c = rw (eq-eqb _ _ c.if-shape-eq0.true) c.with_iedp.ensures

pub returns : goal.returns
unfolding shaped_of
returns c = rw (ne_eqb _ _ c.if-shape-eq0.false) c.with_iedp-2.ensures
