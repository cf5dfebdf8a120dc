-- After ih turns the rows below ih are done.
use Prim.Native.Nat.{◌≤◌, ◌-◌}
use mathlib.Core.Path.{◌≡◌}
use Rattle.losses.specs.Alosfv.{e_rows}
use Rattle.losses.proofs.Factors.e_rows.Given as goal

abbrev pub invariant-loop-ih : goal.invariant-loop-ih
invariant-loop-ih l = (l.ih ≤ 10) × (l.g ≡ e_rows l.initial.g l.ion l.l l.d l.ih)

abbrev pub decreases-loop-ih : goal.decreases-loop-ih
decreases-loop-ih l = 10 - l.ih
