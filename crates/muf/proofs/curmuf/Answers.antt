-- The row that the call names is there, by `flat-below`; the answer is the definition's, and says what that says.
use Rattle.std.specs.Prelude.{Result, Ok, Some}
use Rattle.std.proofs.Common.{◌≡◌, ◌*◌, ◌<◌, ℕ, length}
use native.Mathlib.Omega.{arith}
use Rattle.std.proofs.lemmas.Result.{err_from_is_err_and}
use Rattle.refusal.specs.declared.Refusal.{Refusal}
use Rattle.muf.specs.declared.sporadic.Rewrite.{Rewrite}
use Rattle.muf.specs.Curmuf.{RowBelow, rewrite_by}
use Rattle.muf.specs.declared.AnswerAndRow.{AnswerAndRow}
use Rattle.muf.proofs.Says.{flat-says}
use Rattle.muf.proofs.Rows.{flat-below, rows-there}
use Rattle.muf.proofs.curmuf.Goals.{In-Some}
use Rattle.muf.proofs.curmuf.Goals as goal

below : (d : AnswerAndRow) (F : Result AnswerAndRow Refusal) (w : Rewrite) (m : ℕ) → Ok d ≡ F → d.rewrite ≡ Some w → RowBelow m (rewrite_by F) → w.ksx < m
below d F w m e h f = rw (← e, h) at f

there : (c : In-Some) → 4 * c.in-Some.w.ksx < length c.args.es.now
there c =
    let h = below c.in_ok-d.d _ c.in-Some.w _ c.in_ok-d.ensures c.in-Some.is (flat-below c.args.s c.args.es.now c.args.f2d.now c.args.clat.now c.args.clck.now c.args.c) in
    omega (arith, rows-there (length c.args.es.now) c.args.s.km)

pub overflow_mul-es : goal.overflow_mul-es
overflow_mul-es c = let h = there (goal.at.overflow_mul-es c).In-Some in omega arith

pub offset_bounds-es-w : goal.offset_bounds-es-w
offset_bounds-es-w c = let h = there (goal.at.offset_bounds-es-w c).In-Some in omega arith

pub bounds-es-w : goal.bounds-es-w
bounds-es-w c = there (goal.at.bounds-es-w c).In-Some

pub returns-in_err-d-clause-muf_says : goal.returns-in_err-d-clause-muf_says
returns-in_err-d-clause-muf_says c = let p = err_from_is_err_and c.from_residual.result c.from_residual.ensures.1 in flat-says _ _ c.args.es.now _ _ _ _ (rw (p.1, p.2, ← c.in_err-d.ensures))

pub returns-clause-muf_says : goal.returns-clause-muf_says
returns-clause-muf_says c = flat-says _ _ c.args.es.now _ _ _ _ (rw (← c.in_ok-d.ensures))
