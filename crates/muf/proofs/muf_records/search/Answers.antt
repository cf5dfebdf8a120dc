-- The rows that are taken are there, and each is its record.
use Rattle.std.proofs.Common.{rules, ◌≤◌, length}
use Rattle.std.proofs.iter.Serving.{serving}
use Rattle.muf.proofs.Rows.{taken-there}
use Rattle.muf.specs.LentRecords.{es_row_at}
use Rattle.muf.proofs.muf_records.search.Goals as goal

pub search-requires : goal.search-requires
search-requires c =
    let there : c.rows_taken-n.result ≤ length c.args.es.now = rw c.rows_taken-n.ensures (taken-there _ _) in
    grind serving

pub returns : goal.returns
returns c =
    let found = c.search.ensures.value (es_row_at c.args.es.now) (λ k row h p. search rules) in
    rw (← c.rows_taken-n.ensures, ← found)
