-- The circuit MUF over a lent list of Es records: what it answers, and the records after.
use Rattle.refusal.specs.declared.Refusal.{Refusal}
use Rattle.std.specs.Prelude.{List, ℕ, length, get_or, Float, Result}
use Rattle.layers.specs.declared.IonoState.{IonoState}
use Rattle.layers.specs.declared.EsParams.{EsParams}
use Rattle.heights.specs.Gethp.{Finder, gethp_of}
use Rattle.layer_mufs.specs.declared.PathNumbers.{PathNumbers}
use Rattle.muf.specs.Curmuf.{taken_rows, muf_of_rows_with, answer_by, rewrite_by}
use Rattle.muf.specs.declared.MufAnswer.{MufAnswer}
use Rattle.muf.specs.declared.AnswerAndRow.{AnswerAndRow}
pub use Rattle.muf.specs.Records.{no_es, lower_rewritten, records_by}

abbrev pub es_row_at : List EsParams → ℕ → EsParams
es_row_at es k = get_or es k no_es

-- `find` is the way of finding heights off the profile
unfoldable pub records_answer_with : Finder → IonoState → List EsParams → List Float → List Float → List Float → PathNumbers → Result AnswerAndRow Refusal
records_answer_with find s es f2d clat clck c = muf_of_rows_with find s (taken_rows (length es) s.km) (es_row_at es) f2d clat clck c

abbrev pub records_answer_of : IonoState → List EsParams → List Float → List Float → List Float → PathNumbers → Result AnswerAndRow Refusal
records_answer_of = records_answer_with gethp_of

abbrev pub records_muf_of : IonoState → List EsParams → List Float → List Float → List Float → PathNumbers → Result MufAnswer Refusal
records_muf_of s es f2d clat clck c = answer_by (records_answer_of s es f2d clat clck c)

abbrev pub records_after_of : IonoState → List EsParams → List Float → List Float → List Float → PathNumbers → List EsParams
records_after_of s es f2d clat clck c = records_by (rewrite_by (records_answer_of s es f2d clat clck c)) es
