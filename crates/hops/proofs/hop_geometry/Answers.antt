-- Each path is its clause of the definition; each call is what its contract says.
use Rattle.std.proofs.lemmas.Result.{err_from_is_err_and}
use Rattle.hops.specs.Geometry.{geometry_of}
use Rattle.hops.proofs.Says.{geometry-says}
use Rattle.hops.proofs.hop_geometry.Goals as goal

pub returns-in_err-xhops-clause-value : goal.returns-in_err-xhops-clause-value
unfolding geometry_of
returns-in_err-xhops-clause-value c = let p = err_from_is_err_and c.from_residual.result c.from_residual.ensures.1 in rw (p.1, p.2, ← c.in_err-xhops.ensures.value)

pub returns-in_err-xhops-clause-geometry_says : goal.returns-in_err-xhops-clause-geometry_says
returns-in_err-xhops-clause-geometry_says c = geometry-says _ _ _ _ _ _ (returns-in_err-xhops-clause-value c)

pub returns-clause-value : goal.returns-clause-value
unfolding geometry_of
returns-clause-value c = rw (← c.in_ok-xhops.ensures.value, ← c.hop_angles.ensures)

pub returns-clause-geometry_says : goal.returns-clause-geometry_says
returns-clause-geometry_says c = geometry-says _ _ _ _ _ _ (returns-clause-value c)
