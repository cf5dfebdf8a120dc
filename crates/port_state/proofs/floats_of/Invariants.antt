-- After i turns the first i floats are read.
use mathlib.Core.Path.{◌≡◌}
use Prim.Native.Nat.{◌≤◌, ◌+◌}
use lib.ListN.{length}
use Rattle.port_state.proofs.Copies.{read_so_far}
use Rattle.port_state.proofs.floats_of.Given as goal

abbrev pub invariant-loop-i : goal.invariant-loop-i
invariant-loop-i l = (l.i ≤ length l.initial.x) × (length l.x ≡ length l.initial.x) × ((h : l.from + length l.initial.x ≤ length l.w) → l.x ≡ read_so_far l.w l.from l.initial.x h l.i)
