-- What is left of the test at place i is the whole test: all numbers before it are fit, and stored.
use Prim.Native.Nat.{◌-◌, ◌≤◌}
use mathlib.Core.Path.{◌≡◌}
use lib.ListN.{drop, replicate}
use Rattle.figures.specs.Nearest.{times_of}
use Rattle.traces.specs.Computed.{all_fit}
use Rattle.traces.proofs.Cells.{sofar}
use Rattle.traces.proofs.computed_trace.scaled.Given as goal

abbrev pub invariant-loop-i : goal.invariant-loop-i
invariant-loop-i l = record {
  within : l.i ≤ 30;
  left : all_fit l.k (drop l.i l.x) ≡ all_fit l.k l.x;
  cells : l.out ≡ sofar (times_of l.k) l.x l.i (replicate 30 0);
}

abbrev pub decreases-loop-i : goal.decreases-loop-i
decreases-loop-i l = 30 - l.i
