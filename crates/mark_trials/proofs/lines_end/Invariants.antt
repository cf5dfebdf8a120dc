-- No more lines than bytes were passed.
use Rattle.std.proofs.Common.{◌≤◌, length}
use Rattle.mark_trials.proofs.lines_end.Given as goal

abbrev pub invariant-loop-i : goal.invariant-loop-i
invariant-loop-i l = (l.k ≤ l.i) × (l.i ≤ length l.s)
