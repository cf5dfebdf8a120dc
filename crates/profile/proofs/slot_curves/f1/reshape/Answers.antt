-- Five ways through the tests, each the clause that they choose.
use Rattle.profile.specs.F1.{f1_of}
use Rattle.profile.proofs.slot_curves.f1.reshape.Goals as goal

pub returns-then-htw-s : goal.returns-then-htw-s
unfolding f1_of
returns-then-htw-s c = rw (c.if-s.true, ← c.sqrt.ensures, c.if-htw-s.true, ← c.min-yi1.ensures)

pub returns-then-v-hb1 : goal.returns-then-v-hb1
unfolding f1_of
returns-then-v-hb1 c = rw (c.if-s.true, ← c.sqrt.ensures, c.if-htw-s.false, ← c.max-ys.ensures, c.if-v-hb1.true, ← c.min-yi1-then-v-hb1.ensures)

pub returns-then-ys-yb : goal.returns-then-ys-yb
unfolding f1_of
returns-then-ys-yb c = rw (c.if-s.true, ← c.sqrt.ensures, c.if-htw-s.false, ← c.max-ys.ensures, c.if-v-hb1.false, ← c.max.ensures, c.if-ys-yb.true, ← c.sqrt-fsec.ensures)

pub returns-then-s : goal.returns-then-s
unfolding f1_of
returns-then-s c = rw (c.if-s.true, ← c.sqrt.ensures, c.if-htw-s.false, ← c.max-ys.ensures, c.if-v-hb1.false, ← c.max.ensures, c.if-ys-yb.false, ← c.sqrt-fsec.ensures)

pub returns : goal.returns
unfolding f1_of
returns c = rw c.if-s.false
