-- The row that is rewritten is one of those that are worked, and these are there.
use mathlib.Core.List.{List}
use lib.ListN.{length}
use lib.Ieee.{Float}
use Rattle.layers.specs.declared.IonoState.{IonoState}
use Rattle.layers.specs.declared.EsParams.{EsParams}
use Rattle.layer_mufs.specs.declared.PathNumbers.{PathNumbers}
use Rattle.muf.specs.Curmuf.{taken_rows, RowBelow, rewrite_by}
use Rattle.muf.proofs.Rows.{done_below, taken-there, row-within}
use Rattle.muf.specs.LentRecords.{es_row_at, records_answer_with, records_answer_of}

pub records-below : (s : IonoState) (es : List EsParams) (f2d clat clck : List Float) (c : PathNumbers) → RowBelow (length es) (rewrite_by (records_answer_of s es f2d clat clck c))
unfolding records_answer_with
records-below s es f2d clat clck c = row-within _ _ _ (taken-there (length es) s.km) (done_below s (taken_rows (length es) s.km) (es_row_at es) f2d clat clck c)
