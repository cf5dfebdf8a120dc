-- `scalar::root::rounded_root` meets its contract: the first loop leaves off where the square less r is below n, which the second keeps, and that leaves off where the square and r are not. The measures are r, and what n is above r. Assumes nothing.
use Prim.Native.Nat.{◌+◌, ◌-◌, ◌*◌, ◌^◌, ◌<◌}
use Rattle.scalar.proofs.root.rounded_root.Given as goal

abbrev pub invariant-loop-r : goal.invariant-loop-r
invariant-loop-r l = l.r < 2 ^ 25

abbrev pub decreases-loop-r : goal.decreases-loop-r
decreases-loop-r l = l.r

abbrev pub invariant-loop-r-2 : goal.invariant-loop-r-2
invariant-loop-r-2 l = l.r * l.r < l.n + l.r

abbrev pub decreases-loop-r-2 : goal.decreases-loop-r-2
decreases-loop-r-2 l = l.n - l.r
