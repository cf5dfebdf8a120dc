use mathlib.Core.Path.{refl, ap, ◌∙◌}
use native.Mathlib.Nat.{le_antisymm}
use native.Mathlib.Numerals.{add-one}
use native.Mathlib.Omega.{arith}
use Rattle.losses.specs.Alosfv.{loss_stored, tail_rows}
use Rattle.losses.proofs.Factors.tail_rows.Goals as goal

pub loop-i-init : goal.loop-i-init
unfolding tail_rows
loop-i-init c = (omega arith, refl)

pub loop-i-preserved : goal.loop-i-preserved
unfolding loss_stored tail_rows
loop-i-preserved c = (omega arith, rw (add-one _, ← c.loop-i.invariant.1, ← c.tail_loss-r.ensures))

pub returns : goal.returns
returns c = c.loop-i.invariant.1 ∙ ap (tail_rows _ _ _ _ _ _) (le_antisymm c.loop-i.invariant.0 c.loop-i-test.false)
