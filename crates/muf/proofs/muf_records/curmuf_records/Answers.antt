-- The search of the records is that of the definition, and its row is one of them.
use Rattle.std.proofs.Common.{◌≡◌, ap, ◌∙◌, length, List}
use lib.Ieee.{Float}
use Rattle.layers.specs.declared.IonoState.{IonoState}
use Rattle.layers.specs.declared.EsParams.{EsParams}
use Rattle.layer_mufs.specs.declared.PathNumbers.{PathNumbers}
use Rattle.refusal.specs.declared.Refusal.{Refusal}
use Rattle.muf.specs.declared.sporadic.EsSearch.{EsSearch}
use Rattle.std.specs.Prelude.{Result, Ok, Err}
use Rattle.std.proofs.lemmas.Result.{err_from_is_err_and}
use Rattle.muf.specs.Sporadic.{es_from, start_of}
use Rattle.muf.specs.declared.AnswerAndRow.{AnswerAndRow}
use Rattle.muf.specs.Curmuf.{muf_of_rows_with, muf_from_search_of, taken_rows}
use Rattle.muf.specs.LentRecords.{es_row_at, records_answer_with, records_answer_of}
use Rattle.muf.proofs.Says.{records-say}
use Rattle.muf.proofs.muf_records.Rows.{records-below}
use Rattle.muf.proofs.muf_records.curmuf_records.Goals as goal

-- the answer of the search of the records is that of the records
of-records : (s : IonoState) (ys : List EsParams) (found : Result EsSearch Refusal) (f2d clat clck : List Float) (c : PathNumbers) (r : Result AnswerAndRow Refusal) → found ≡ es_from (es_row_at ys) c (taken_rows (length ys) s.km) 0 start_of → r ≡ muf_from_search_of s found f2d clat clck c → r ≡ records_answer_of s ys f2d clat clck c
unfolding records_answer_with muf_of_rows_with
of-records s ys found f2d clat clck c r e w = w ∙ ap (λ (z : Result EsSearch Refusal). muf_from_search_of s z f2d clat clck c) e

pub rewrite-requires : goal.rewrite-requires
rewrite-requires c =
    let e = of-records c.args.s c.args.es.now c.search-found.result c.args.f2d.now c.args.clat.now c.args.clck.now c.args.c (Ok c.in_ok-d.d) c.search-found.ensures c.in_ok-d.ensures in
    let h = records-below c.args.s c.args.es.now c.args.f2d.now c.args.clat.now c.args.clck.now c.args.c in
    rw (← e) at h

pub returns-in_err-d : goal.returns-in_err-d
returns-in_err-d c =
    let p = err_from_is_err_and c.from_residual.result c.from_residual.ensures.1 in
    let e = of-records c.args.s c.args.es.now c.search-found.result c.args.f2d.now c.args.clat.now c.args.clck.now c.args.c (Err c.in_err-d.field-0.0) c.search-found.ensures c.in_err-d.ensures in
    record { answer = rw (p.1, p.2, ← e); records_after = rw (← e); muf_says = records-say _ _ c.args.es.now _ _ _ _ (rw (p.1, p.2, ← e)) }

pub returns : goal.returns
returns c =
    let e = of-records c.args.s c.args.es.now c.search-found.result c.args.f2d.now c.args.clat.now c.args.clck.now c.args.c (Ok c.in_ok-d.d) c.search-found.ensures c.in_ok-d.ensures in
    record { answer = rw (← e); records_after = rw (← e) c.rewrite.ensures; muf_says = records-say _ _ c.args.es.now _ _ _ _ (rw (← e)) }
