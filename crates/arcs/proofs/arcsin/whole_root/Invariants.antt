-- `arcs::arcsin::whole_root` meets its contract: n stays below the square of r + 1, r falls, and the loop ends where r * r is not above n.
use Prim.Native.Nat.{◌+◌, ◌-◌, ◌*◌, ◌^◌, ◌≤◌, ◌<◌}
use Rattle.arcs.proofs.arcsin.whole_root.Given as goal

abbrev pub invariant-loop-r : goal.invariant-loop-r
invariant-loop-r l = (l.n < (l.r + 1) * (l.r + 1)) × (l.r ≤ 2 ^ 32 - 1)

abbrev pub decreases-loop-r : goal.decreases-loop-r
decreases-loop-r l = l.r
