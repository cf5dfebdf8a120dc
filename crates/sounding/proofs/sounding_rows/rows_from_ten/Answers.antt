use mathlib.Core.Path.{refl, ap, ◌∙◌}
use native.Mathlib.Nat.{le_antisymm}
use native.Mathlib.Numerals.{add-one}
use native.Mathlib.Omega.{arith}
use Rattle.sounding.specs.Rows.{rows_of}
use Rattle.sounding.proofs.sounding_rows.rows_from_ten.Goals as goal

pub loop-i-init : goal.loop-i-init
unfolding rows_of
loop-i-init p c = (omega arith, λ g is. rw c.copy_from_slice.ensures.after refl)

pub loop-i-preserved : goal.loop-i-preserved
unfolding rows_of
loop-i-preserved p c = (omega arith, λ g is. rw (add-one _, ← c.loop-i.invariant.1 g is, is _ _ c.row.ensures))

pub returns : goal.returns
returns p c = λ g is. c.loop-i.invariant.1 g is ∙ ap (rows_of _ _ _ _) (le_antisymm c.loop-i.invariant.0 c.loop-i-test.false)
