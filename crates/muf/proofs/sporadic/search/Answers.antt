-- Each turn takes one row off what is left, as the reader gave it.
use Rattle.std.proofs.Common.{◌≡◌, ◌-◌, arith}
use Rattle.std.proofs.lemmas.Result.{err_from_is_err_and}
use Rattle.muf.proofs.sporadic.Searches.{one_more, none_left}
use Rattle.muf.proofs.sporadic.Says.{rows-say}
use Rattle.muf.proofs.sporadic.search.Goals as goal

pub loop-k-init : goal.loop-k-init
loop-k-init g c =
    let e : c.args.n - 0 ≡ c.args.n = omega arith in
    record { in_rows = omega arith; same = λ rows reads. rw (c.es_start-a.ensures, e) }

pub returns-in_err-a-clause-value : goal.returns-in_err-a-clause-value
returns-in_err-a-clause-value g c = λ rows reads.
    let p = err_from_is_err_and c.from_residual.result c.from_residual.ensures.1 in
    let row = reads c.loop-k.k c.row.result c.loop-k-test.true c.row.ensures in
    rw (p.1, p.2) (rw (one_more _ _ _ _ _ c.loop-k-test.true, ← row, ← c.in_err-a.ensures.value) at (c.loop-k.invariant.same rows reads))

pub returns-in_err-a-clause-rows_say : goal.returns-in_err-a-clause-rows_say
returns-in_err-a-clause-rows_say g c = λ rows reads. rows-say _ _ _ _ _ _ (returns-in_err-a-clause-value g c rows reads)

pub loop-k-preserved : goal.loop-k-preserved
loop-k-preserved g c = record {
  in_rows = omega arith;
  same = λ rows reads.
      let row = reads c.loop-k.k c.row.result c.loop-k-test.true c.row.ensures in
      rw (one_more _ _ _ _ _ c.loop-k-test.true, ← row, ← c.in_ok-a.ensures.value) at (c.loop-k.invariant.same rows reads);
}

pub returns-clause-value : goal.returns-clause-value
returns-clause-value g c = λ rows reads.
    let at_end : c.args.n - c.loop-k.k ≡ 0 = omega arith in
    rw (at_end, none_left) at (c.loop-k.invariant.same rows reads)

pub returns-clause-rows_say : goal.returns-clause-rows_say
returns-clause-rows_say g c = λ rows reads. rows-say _ _ _ _ _ _ (returns-clause-value g c rows reads)
