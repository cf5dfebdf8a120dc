-- After i turns the first i floats are written.
use mathlib.Core.Path.{◌≡◌}
use Prim.Native.Nat.{◌≤◌, ◌+◌}
use lib.ListN.{length}
use Rattle.port_state.proofs.Copies.{written_so_far}
use Rattle.port_state.proofs.floats_into.Given as goal

abbrev pub invariant-loop-i : goal.invariant-loop-i
invariant-loop-i l = (length l.w ≡ length l.initial.w) × ((h : l.from + length l.x ≤ length l.initial.w) → l.w ≡ written_so_far l.initial.w l.from l.x h l.i)
