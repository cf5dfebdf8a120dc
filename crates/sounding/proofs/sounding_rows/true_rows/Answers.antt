use mathlib.Core.Path.{refl, ap, ◌∙◌}
use native.Mathlib.Nat.{le_antisymm}
use native.Mathlib.Numerals.{add-one}
use native.Mathlib.Omega.{arith}
use Rattle.sounding.specs.Rows.{HTE, rows_of}
use Rattle.sounding.proofs.sounding_rows.true_rows.Goals as goal

pub loop-i-init : goal.loop-i-init
unfolding rows_of HTE
loop-i-init c = (omega arith, rw c.copy_from_slice.ensures.after refl, refl)

pub loop-i-preserved : goal.loop-i-preserved
unfolding rows_of
loop-i-preserved c =
    let l = c.loop-i.invariant in
    let h = c.true_by_profile-h.ensures in
    (omega arith, rw (add-one _, ← l.1, ← h.0), rw (add-one _, ← l.2, ← h.1))

pub returns : goal.returns
returns c =
    let l = c.loop-i.invariant in
    let e = le_antisymm l.0 c.loop-i-test.false in
    record { htrue_value = l.1 ∙ ap (rows_of _ _ _ _) e; segment_value = l.2 ∙ ap (rows_of _ _ _ _) e }
