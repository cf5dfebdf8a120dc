-- What the rows that are left do to the search so far is what all rows do to its start, whatever rows they are that the reader gives.
use Rattle.std.proofs.Common.{◌≡◌, ◌≤◌, ◌-◌, ℕ}
use Rattle.muf.specs.Sporadic.{es_from, start_of, Reads}
use Rattle.layers.specs.declared.EsParams.{EsParams}
use Rattle.muf.proofs.sporadic.search.Given as goal

abbrev pub invariant-loop-k : goal.invariant-loop-k
invariant-loop-k g l = record {
  in_rows : l.k ≤ l.n;
  same : (rows : ℕ → EsParams) → Reads (goal.F-post g l.row) l.n rows → es_from rows l.c (l.n - l.k) l.k l.a ≡ es_from rows l.c l.n 0 start_of;
}

abbrev pub decreases-loop-k : goal.decreases-loop-k
decreases-loop-k g l = l.n - l.k
