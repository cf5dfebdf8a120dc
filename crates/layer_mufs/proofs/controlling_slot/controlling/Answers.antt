-- Each path is the clause that its tests choose; each call is what its contract says.
use borrow.Author.Tests.{le-leb, lt-leb, eq-eqb, ne_eqb}
use Rattle.layer_mufs.specs.Controlling.{controlling_of}
use Rattle.layer_mufs.proofs.controlling_slot.controlling.Goals as goal

pub returns-then-kfx-le1 : goal.returns-then-kfx-le1
unfolding controlling_of
returns-then-kfx-le1 c = rw (le-leb _ _ c.if-kfx-le1.true)

pub returns-then-kfx-eq2 : goal.returns-then-kfx-eq2
unfolding controlling_of
returns-then-kfx-eq2 c = rw (lt-leb _ _ c.if-kfx-le1.false, eq-eqb _ _ c.if-kfx-eq2.true, ← c.compare_e.ensures)

pub returns-then-abs : goal.returns-then-abs
unfolding controlling_of
returns-then-abs c = rw (lt-leb _ _ c.if-kfx-le1.false, ne_eqb _ _ c.if-kfx-eq2.false, ← c.abs.ensures, c.if-abs.true, ← c.compare_e-then-abs.ensures)

pub returns-then-s : goal.returns-then-s
unfolding controlling_of
returns-then-s c = rw (lt-leb _ _ c.if-kfx-le1.false, ne_eqb _ _ c.if-kfx-eq2.false, ← c.abs.ensures, c.if-abs.false, c.if-s.true)

pub returns : goal.returns
unfolding controlling_of
returns c = rw (lt-leb _ _ c.if-kfx-le1.false, ne_eqb _ _ c.if-kfx-eq2.false, ← c.abs.ensures, c.if-abs.false, c.if-s.false)
