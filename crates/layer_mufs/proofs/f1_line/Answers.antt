-- Each path is the clause that its tests choose; each call is what its contract says.
use Rattle.layer_mufs.specs.Lines.{f1_line_with}
use Rattle.layer_mufs.proofs.Says.{f1-says}
use Rattle.layer_mufs.proofs.f1_line.Goals as goal

pub returns-then-l : goal.returns-then-l
unfolding f1_line_with
returns-then-l c = record { value = (rw (c.if-l.true)); f1_says = f1-says _ _ _ _ _ _ _ (rw (c.if-l.true)) }

pub returns : goal.returns
unfolding f1_line_with
returns c = record { value = (rw (c.if-l.false, ← c.f1_own.ensures)); f1_says = f1-says _ _ _ _ _ _ _ (rw (c.if-l.false, ← c.f1_own.ensures)) }
