use mathlib.Core.Path.{refl}
use native.Mathlib.Nat.{le_antisymm}
use native.Mathlib.Numerals.{add-one}
use native.Mathlib.Omega.{arith}
use Rattle.profile.specs.Grid.{filled}
use Rattle.profile.proofs.slot_curves.grid.fill.Goals as goal

pub loop-k-init : goal.loop-k-init
unfolding filled
loop-k-init g c = (omega arith, refl)

pub loop-k-preserved : goal.loop-k-preserved
unfolding filled
loop-k-preserved g c = (omega arith, rw (add-one c.loop-k.k, ← c.loop-k.invariant.1))

pub returns : goal.returns
returns g c = rw (← le_antisymm c.loop-k.invariant.0 c.loop-k-test.false) c.loop-k.invariant.1
