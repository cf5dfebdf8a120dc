-- The tests in the paper's order, then the walk.
use mathlib.Core.Path.{sym, ◌∙◌}
use native.Mathlib.Omega.{arith}
use Rattle.records.proofs.record_chain.Steps.{head-facts}
use borrow.Author.Tests.{eq-eqb, le-leb, lt-leb, ne_eqb}
use Rattle.records.specs.Chain.{chain_of}
use Rattle.records.proofs.record_chain.follow_form.Goals.{then-n-size-ne0-via-then-n-size-ne0, then-n-size-ne0-via-else-n-size-ne0+then-n-size, then-n-size-ne0-via-else-n-size-ne0+else-n-size+then-n-size-2}
use Rattle.records.proofs.record_chain.follow_form.Goals as goal

pub returns-then-n-size-ne0 : goal.returns-then-n-size-ne0
unfolding chain_of
returns-then-n-size-ne0 c =
    elim c.then-n-size-ne0.branch [
      | then-n-size-ne0-via-then-n-size-ne0 w ↦ rw (ne_eqb _ _ w.if-n-size-ne0.true)
      | then-n-size-ne0-via-else-n-size-ne0+then-n-size w ↦ rw (eq-eqb _ _ w.if-n-size-ne0.false, lt-leb _ _ w.if-n-size.true)
      | then-n-size-ne0-via-else-n-size-ne0+else-n-size+then-n-size-2 w ↦
          rw (eq-eqb _ _ w.if-n-size-ne0.false, le-leb _ _ w.if-n-size.false, lt-leb _ _ w.if-n-size-2.true)
    ]

pub returns-then-not-head_good : goal.returns-then-not-head_good
unfolding chain_of
returns-then-not-head_good c = rw (eq-eqb _ _ c.if-n-size-ne0.false, le-leb _ _ c.if-n-size.false, le-leb _ _ c.if-n-size-2.false, ← c.head_good.ensures, c.if-not-head_good.true)

pub walk-requires : goal.walk-requires
walk-requires c = (omega arith, rw (c.byte.ensures, c.record.ensures) (head-facts _ _ (sym c.head_good.ensures ∙ c.if-not-head_good.false)).most)

pub returns : goal.returns
unfolding chain_of
returns c = rw (eq-eqb _ _ c.if-n-size-ne0.false, le-leb _ _ c.if-n-size.false, le-leb _ _ c.if-n-size-2.false, ← c.head_good.ensures, c.if-not-head_good.false, ← c.record.ensures, ← c.byte.ensures, ← c.walk.ensures)
