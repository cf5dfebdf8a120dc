-- Each path is its clause of the definition; each call is what its contract says.
use Rattle.std.proofs.lemmas.Result.{err_from_is_err_and}
use Rattle.layer_mufs.specs.LayerLine.{e_line_with}
use Rattle.layer_mufs.proofs.e_lines.Says.{e-says}
use Rattle.layer_mufs.proofs.e_lines.e_line.Goals as goal

pub returns-in_err-g-clause-value : goal.returns-in_err-g-clause-value
unfolding e_line_with
returns-in_err-g-clause-value c = let p = err_from_is_err_and c.from_residual.result c.from_residual.ensures.1 in rw (p.1, p.2, ← c.e_heights-h.ensures, ← c.in_err-g.ensures.value)

pub returns-in_err-g-clause-e_says : goal.returns-in_err-g-clause-e_says
returns-in_err-g-clause-e_says c = e-says _ _ _ _ _ (returns-in_err-g-clause-value c)

pub returns-clause-value : goal.returns-clause-value
unfolding e_line_with
returns-clause-value c = rw (← c.e_heights-h.ensures, ← c.in_ok-g.ensures.value, ← c.e_found.ensures)

pub returns-clause-e_says : goal.returns-clause-e_says
returns-clause-e_says c = e-says _ _ _ _ _ (returns-clause-value c)
