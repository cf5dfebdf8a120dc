use mathlib.Core.Path.{◌≡◌, refl, ap, ◌∙◌}
use mathlib.Core.List.{List}
use Prim.Native.Nat.{ℕ, ◌+◌}
use native.Mathlib.Nat.{le_antisymm, zero-add}
use native.Mathlib.Numerals.{add-one}
use native.Mathlib.Omega.{arith}
use lib.ListN.{set}
use lib.Ieee.{Float}
use Rattle.scalar.specs.F32.{at}
use borrow.Author.Rules.{rules}
use Rattle.profile.specs.Rising.{rises_of}
use Rattle.heights.proofs.Owned.{each-held}
use Rattle.sounding.proofs.sounding_rows.Lent.{lent_rows}
use Rattle.sounding.specs.Rows.{rows_of}
use Rattle.sounding.proofs.sounding_rows.by_profile.Goals as goal

one-turn : {A : Type 0} (row : Float → A) (fv : List Float) (out : List A) (n : ℕ) (l : List A) (h : A) → l ≡ rows_of row fv 0 out n → h ≡ row (at fv n) → set l n h ≡ rows_of row fv 0 out (n + 1)
unfolding rows_of
one-turn row fv out n l h el eh = rw (add-one n, zero-add n, el, eh)

pub loop-i-init : goal.loop-i-init
unfolding rows_of
loop-i-init c = (omega arith, refl, refl, refl)

pub gethp_read-h-requires : goal.gethp_read-h-requires
gethp_read-h-requires c = tt

pub loop-i-preserved : goal.loop-i-preserved
loop-i-preserved c =
    let l = c.loop-i in
    let e = c.gethp_read-h.ensures in
    (omega arith, one-turn _ _ _ l.i _ _ l.invariant.1 (ap (λ h. h.hp) e), one-turn _ _ _ l.i _ _ l.invariant.2 (ap (λ h. h.ht) e), one-turn _ _ _ l.i _ _ l.invariant.3 (ap (λ h. h.segment) e))

pub returns : goal.returns
returns c =
    let l = c.loop-i in
    let e = le_antisymm l.invariant.0 c.loop-i-test.false in
    let t = c.args.t in
    let g = c.well_formed.0.1.1.0.1.1.1.1.1.1.1.0 in
    let told : t.rises ≡ rises_of t.s.htr = search rules in
    let held = each-held t.s.htr g.0 g.1.1 in
    let p = c.lent-p.ensures in
    let hprim = (rw (p.htr, p.fnsq, p.rises) at l.invariant.1) ∙ ap (rows_of _ _ _ _) e ∙ lent_rows (λ h. h.hp) t.s t.rises held told _ _ _ _ in
    let htrue = (rw (p.htr, p.fnsq, p.rises) at l.invariant.2) ∙ ap (rows_of _ _ _ _) e ∙ lent_rows (λ h. h.ht) t.s t.rises held told _ _ _ _ in
    let segment = (rw (p.htr, p.fnsq, p.rises) at l.invariant.3) ∙ ap (rows_of _ _ _ _) e ∙ lent_rows (λ h. h.segment) t.s t.rises held told _ _ _ _ in
    rw (← hprim, ← htrue, ← segment) c.make.ensures
