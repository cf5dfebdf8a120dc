-- Each path is its clause of the definition; each call is what its contract says.
use Rattle.std.proofs.lemmas.Result.{err_from_is_err_and}
use Rattle.layer_mufs.specs.Lines.{deviations_of}
use Rattle.layer_mufs.proofs.Says.{deviations-say}
use Rattle.layer_mufs.proofs.both_deviations.Goals as goal

pub returns-in_err-low-clause-value : goal.returns-in_err-low-clause-value
unfolding deviations_of
returns-in_err-low-clause-value c = let p = err_from_is_err_and c.from_residual.result c.from_residual.ensures.1 in rw (p.1, p.2, ← c.in_err-low.ensures.value)

pub returns-in_err-low-clause-deviations_say : goal.returns-in_err-low-clause-deviations_say
returns-in_err-low-clause-deviations_say c = deviations-say _ _ _ _ _ _ (returns-in_err-low-clause-value c)

pub returns-in_err-high-clause-value : goal.returns-in_err-high-clause-value
unfolding deviations_of
returns-in_err-high-clause-value c = let p = err_from_is_err_and c.from_residual-in_err-high.result c.from_residual-in_err-high.ensures.1 in rw (p.1, p.2, ← c.in_ok-low.ensures.value, ← c.in_err-high.ensures.value)

pub returns-in_err-high-clause-deviations_say : goal.returns-in_err-high-clause-deviations_say
returns-in_err-high-clause-deviations_say c = deviations-say _ _ _ _ _ _ (returns-in_err-high-clause-value c)

pub returns-clause-value : goal.returns-clause-value
unfolding deviations_of
returns-clause-value c = rw (← c.in_ok-low.ensures.value, ← c.in_ok-high.ensures.value, ← c.max.ensures, ← c.max-2.ensures)

pub returns-clause-deviations_say : goal.returns-clause-deviations_say
returns-clause-deviations_say c = deviations-say _ _ _ _ _ _ (returns-clause-value c)
