-- Each path is its clause of the definition; each call is what its contract says.
use Rattle.std.proofs.lemmas.Result.{err_from_is_err_and}
use Rattle.layer_mufs.specs.Lines.{f2_bent_of}
use Rattle.layer_mufs.proofs.f2_bent.Goals as goal

pub returns-in_err-sig : goal.returns-in_err-sig
unfolding f2_bent_of
returns-in_err-sig c = let p = err_from_is_err_and c.from_residual.result c.from_residual.ensures.1 in rw (p.1, p.2, ← c.in_err-sig.ensures.value)

pub returns : goal.returns
unfolding f2_bent_of
returns c = rw (← c.in_ok-sig.ensures.value, ← c.line.ensures)
