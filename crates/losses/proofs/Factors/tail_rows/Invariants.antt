-- After i turns the rows from the first up to first + i are done.
use Prim.Native.Nat.{◌≤◌, ◌-◌}
use mathlib.Core.Path.{◌≡◌}
use Rattle.losses.specs.Alosfv.{tail_rows}
use Rattle.losses.proofs.Factors.tail_rows.Given as goal

abbrev pub invariant-loop-i : goal.invariant-loop-i
invariant-loop-i l = (l.i ≤ l.n) × (l.g ≡ tail_rows l.initial.g l.ion l.l l.d l.floor l.first l.i)

abbrev pub decreases-loop-i : goal.decreases-loop-i
decreases-loop-i l = l.n - l.i
