-- The loop's invariant: the sum of the segments that are done.
use mathlib.Core.Path.{◌≡◌}
use Prim.Native.Nat.{◌≤◌, ◌-◌}
use Rattle.heights.specs.Exact.{whole_of}
use Rattle.heights.proofs.height_integral.whole.Given as goal

abbrev pub invariant-loop-i : goal.invariant-loop-i
invariant-loop-i l = (l.i ≤ l.n) × (l.sum ≡ whole_of l.p.htr.now l.p.fnsq.now l.fr l.i)

abbrev pub decreases-loop-i : goal.decreases-loop-i
decreases-loop-i l = l.n - l.i
