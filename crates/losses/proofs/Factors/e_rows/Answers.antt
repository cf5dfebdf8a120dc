use mathlib.Core.Path.{refl, ap, ◌∙◌}
use native.Mathlib.Nat.{le_antisymm}
use native.Mathlib.Numerals.{add-one}
use native.Mathlib.Omega.{arith}
use Rattle.losses.specs.Alosfv.{loss_stored, e_rows}
use Rattle.losses.proofs.Factors.e_rows.Goals as goal

pub loop-ih-init : goal.loop-ih-init
unfolding e_rows
loop-ih-init c = (omega arith, refl)

pub loop-ih-preserved : goal.loop-ih-preserved
unfolding loss_stored e_rows
loop-ih-preserved c = (omega arith, rw (add-one _, ← c.loop-ih.invariant.1, ← c.e_loss-r.ensures))

pub returns : goal.returns
returns c = c.loop-ih.invariant.1 ∙ ap (e_rows _ _ _ _) (le_antisymm c.loop-ih.invariant.0 c.loop-ih-test.false)
