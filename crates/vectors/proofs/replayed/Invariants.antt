-- Each hour adds at most 1 to a count.
use Rattle.std.proofs.Common.{◌≤◌}
use Rattle.vectors.proofs.replayed.Given as goal

abbrev pub invariant-loop : goal.invariant-loop
invariant-loop l = (l.totals.same ≤ l.counter) × (l.totals.different ≤ l.counter)
