-- Each path is its clause of the definition; each call is what its contract says.
use Rattle.std.proofs.lemmas.Result.{err_from_is_err_and}
use Rattle.layer_mufs.specs.Lines.{f2_line_with}
use Rattle.layer_mufs.proofs.Says.{f2-says}
use Rattle.layer_mufs.proofs.f2_line.Goals as goal

pub returns-in_err-g-clause-value : goal.returns-in_err-g-clause-value
unfolding f2_line_with
returns-in_err-g-clause-value c = let p = err_from_is_err_and c.from_residual.result c.from_residual.ensures.1 in rw (p.1, p.2, ← c.f2_heights-h.ensures, ← c.in_err-g.ensures.value)

pub returns-in_err-g-clause-f2_says : goal.returns-in_err-g-clause-f2_says
returns-in_err-g-clause-f2_says c = f2-says _ _ _ _ _ _ _ _ (returns-in_err-g-clause-value c)

pub returns-clause-value : goal.returns-clause-value
unfolding f2_line_with
returns-clause-value c = rw (← c.f2_heights-h.ensures, ← c.in_ok-g.ensures.value, ← c.bent-b.ensures, ← c.f2_bent.ensures)

pub returns-clause-f2_says : goal.returns-clause-f2_says
returns-clause-f2_says c = f2-says _ _ _ _ _ _ _ _ (returns-clause-value c)
