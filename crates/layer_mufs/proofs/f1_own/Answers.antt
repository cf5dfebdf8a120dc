-- Each path is its clause of the definition; each call is what its contract says, at the two heights that were read.
use Rattle.std.proofs.lemmas.Result.{err_from_is_err_and}
use Rattle.layer_mufs.specs.Lines.{f1_own_with}
use Rattle.layer_mufs.proofs.f1_own.Goals as goal

pub returns-in_err-g : goal.returns-in_err-g
unfolding f1_own_with
returns-in_err-g c =
    let p = err_from_is_err_and c.from_residual.result c.from_residual.ensures.1 in
    let g = rw c.from-h.ensures at c.in_err-g.ensures.value in
    rw (p.1, p.2, ← c.gethp.ensures, ← g)

pub returns : goal.returns
unfolding f1_own_with
returns c =
    let g = rw c.from-h.ensures at c.in_ok-g.ensures.value in
    let line = rw c.from-h.ensures at c.f1_found.ensures in
    rw (← c.gethp.ensures, ← g, ← line)
