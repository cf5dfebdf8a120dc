-- Each turn writes the first line of what is left of the two traces.
use Prim.Native.Nat.{◌+◌, ◌-◌}
use lib.ListN.{length}
use Rattle.traces.proofs.Merged.{Kept}
use Rattle.traces.proofs.lines.Given as goal

abbrev pub invariant-loop-i : goal.invariant-loop-i
invariant-loop-i l =
    Kept l.a l.ah l.b l.bh l.initial.khz l.initial.which l.initial.difference l.khz l.which l.difference l.i l.j l.n

abbrev pub decreases-loop-i : goal.decreases-loop-i
decreases-loop-i l = length l.a + length l.b - (l.i + l.j)
