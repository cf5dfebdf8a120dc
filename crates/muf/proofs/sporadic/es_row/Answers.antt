-- Each path is the clause that its tests choose; each call is what its contract says.
use Rattle.std.proofs.lemmas.Result.{err_from_is_err_and}
use Rattle.muf.specs.Sporadic.{es_row_of}
use Rattle.muf.proofs.sporadic.Says.{row-says}
use Rattle.muf.proofs.sporadic.es_row.Goals as goal

pub returns-then-row-clause-value : goal.returns-then-row-clause-value
unfolding es_row_of
returns-then-row-clause-value c = rw c.if-row.true

pub returns-then-row-clause-row_says : goal.returns-then-row-clause-row_says
returns-then-row-clause-row_says c = row-says _ _ _ _ _ (returns-then-row-clause-value c)

pub returns-in_err-hop-clause-value : goal.returns-in_err-hop-clause-value
unfolding es_row_of
returns-in_err-hop-clause-value c = let p = err_from_is_err_and c.from_residual.result c.from_residual.ensures.1 in rw (p.1, p.2, c.if-row.false, ← c.in_err-hop.ensures.value)

pub returns-in_err-hop-clause-row_says : goal.returns-in_err-hop-clause-row_says
returns-in_err-hop-clause-row_says c = row-says _ _ _ _ _ (returns-in_err-hop-clause-value c)

pub returns-clause-value : goal.returns-clause-value
unfolding es_row_of
returns-clause-value c = rw (c.if-row.false, ← c.in_ok-hop.ensures.value, ← c.es_ray-ray.ensures, ← c.es_taken.ensures)

pub returns-clause-row_says : goal.returns-clause-row_says
returns-clause-row_says c = row-says _ _ _ _ _ (returns-clause-value c)
