-- There are at most 1024 lines, so that their count fits a word.
use Rattle.std.proofs.Common.{rules}
use native.Mathlib.Omega.{arith}
use Rattle.traces.proofs.trace_laws.Few.{few-lines}
use Rattle.port_traces.proofs.compare_into.Goals as goal

pub count_into-requires : goal.count_into-requires
count_into-requires c =
    (search rules, rw c.compare-count.ensures.value (omega (arith, few-lines)))
