-- The loop's invariant: the table and the cursor are those of the reads that are done.
use mathlib.Core.Path.{◌≡◌}
use Prim.Native.Nat.{◌≤◌, ◌-◌}
use Rattle.scalar.specs.F32.{◌≥f◌, at}
use Rattle.scalar.specs.Literals.{f0}
use Rattle.heights.specs.ReadsByWalk.{walk_reads, cursor_after}
use Rattle.heights.proofs.forty_reads.walk_reads.Given as goal

abbrev pub invariant-loop-k : goal.invariant-loop-k
invariant-loop-k l = (l.k ≤ 40) × (l.ysq ≡ walk_reads l.p.htr.now l.p.fnsq.now l.ht l.k) × (l.ih ≡ cursor_after l.p.htr.now l.p.fnsq.now l.ht l.k) × (l.up ≡ (l.ht ≥f f0)) × (l.h0 ≡ at l.p.htr.now 0)

abbrev pub decreases-loop-k : goal.decreases-loop-k
decreases-loop-k l = 40 - l.k
