-- Each path is its clause of the definition; each call is what its contract says.
use Rattle.std.proofs.lemmas.Result.{err_from_is_err_and}
use Rattle.muf.specs.Curmuf.{regular_with}
use Rattle.muf.proofs.Says.{regular-says}
use Rattle.muf.proofs.regular_lines.Goals as goal

pub returns-in_err-e-clause-value : goal.returns-in_err-e-clause-value
unfolding regular_with
returns-in_err-e-clause-value c = let p = err_from_is_err_and c.from_residual.result c.from_residual.ensures.1 in rw (p.1, p.2, ← c.tangent_frequencies-x.ensures, ← c.in_err-e.ensures.value)

pub returns-in_err-e-clause-regular_says : goal.returns-in_err-e-clause-regular_says
returns-in_err-e-clause-regular_says c = regular-says _ _ _ _ _ _ _ (returns-in_err-e-clause-value c)

pub returns-in_err-f2-clause-value : goal.returns-in_err-f2-clause-value
unfolding regular_with
returns-in_err-f2-clause-value c = let p = err_from_is_err_and c.from_residual-in_err-f2.result c.from_residual-in_err-f2.ensures.1 in rw (p.1, p.2, ← c.tangent_frequencies-x.ensures, ← c.in_ok-e.ensures.value, ← c.in_err-f2.ensures.value)

pub returns-in_err-f2-clause-regular_says : goal.returns-in_err-f2-clause-regular_says
returns-in_err-f2-clause-regular_says c = regular-says _ _ _ _ _ _ _ (returns-in_err-f2-clause-value c)

pub returns-in_err-f1-clause-value : goal.returns-in_err-f1-clause-value
unfolding regular_with
returns-in_err-f1-clause-value c = let p = err_from_is_err_and c.from_residual-in_err-f1.result c.from_residual-in_err-f1.ensures.1 in rw (p.1, p.2, ← c.tangent_frequencies-x.ensures, ← c.in_ok-e.ensures.value, ← c.in_ok-f2.ensures.value, ← c.in_err-f1.ensures.value)

pub returns-in_err-f1-clause-regular_says : goal.returns-in_err-f1-clause-regular_says
returns-in_err-f1-clause-regular_says c = regular-says _ _ _ _ _ _ _ (returns-in_err-f1-clause-value c)

pub returns-clause-value : goal.returns-clause-value
unfolding regular_with
returns-clause-value c = rw (← c.tangent_frequencies-x.ensures, ← c.in_ok-e.ensures.value, ← c.in_ok-f2.ensures.value, ← c.in_ok-f1.ensures.value)

pub returns-clause-regular_says : goal.returns-clause-regular_says
returns-clause-regular_says c = regular-says _ _ _ _ _ _ _ (returns-clause-value c)
