-- The code follows the definition; each call is what its contract says.
use Prim.Native.Nat.{ℕ, ◌+◌, ◌*◌}
use Rattle.std.specs.Prelude.{ltb}
use Rattle.std.proofs.lemmas.Result.{err_from_is_err_and}
use Rattle.scalar.specs.F32.{at}
use Rattle.parabolas.specs.Bendy.{pen_at, pen_of, pen_answer}
use Rattle.parabolas.proofs.Places.{answered, refused}
use Rattle.parabolas.proofs.Says.{pen-says}
use Rattle.parabolas.proofs.pen.Goals as goal

pub returns-in_err-n-clause-value : goal.returns-in_err-n-clause-value
unfolding pen_answer
returns-in_err-n-clause-value c =
    let a = c.args in
    let p = err_from_is_err_and c.from_residual.result c.from_residual.ensures.1 in
    rw (p.1, p.2) (refused (ltb 2 a.i) (ltb 2 a.k) (3 * a.k + a.i) _ _ c.in_err-n.ensures.value)

pub returns-in_err-n-clause-layer_says : goal.returns-in_err-n-clause-layer_says
returns-in_err-n-clause-layer_says c = pen-says _ _ _ _ _ (returns-in_err-n-clause-value c)

pub returns-clause-value : goal.returns-clause-value
unfolding pen_answer pen_of
returns-clause-value c =
    let a = c.args in
    rw c.pen_at.ensures (answered (ltb 2 a.i) (ltb 2 a.k) (3 * a.k + a.i) c.in_ok-n.n (λ (n : ℕ). pen_at (at a.s.fi n) (at a.s.yi n) a.f) c.in_ok-n.ensures.value)

pub returns-clause-layer_says : goal.returns-clause-layer_says
returns-clause-layer_says c = pen-says _ _ _ _ _ (returns-clause-value c)
