-- The sheet or its refusal decides, and the text fits.
use mathlib.Core.List.{List}
use mathlib.Core.Path.{◌≡◌, sym, subst, ◌∙◌}
use Prim.Native.Nat.{ℕ, ◌≤◌}
use native.Mathlib.Omega.{arith}
use Rattle.std.specs.Prelude.{Ok, Err}
use Rattle.lines.proofs.Placing.{fits}
use Rattle.circuit_sheet.specs.declared.Sheet.{Sheet}
use Rattle.circuit_sheet.specs.CircuitSheet.{sheet_of}
use Rattle.sheet_text.specs.SheetText.{SlotsFew}
use Rattle.sheet_text.proofs.SlotCount.{three-slots}
use Rattle.show_text.specs.Page.{page_text, refusal_text}
use Rattle.show_text.specs.ShowText.{show_text}
use Rattle.show_text.proofs.show_page.Lengths.{page-most, refusal-most}
use Rattle.show_text.proofs.show_text.Goals as goal

few : (f : List ℕ) (s : Sheet) → sheet_of f ≡ Ok s → s.slots ≤ 3
few f s e = subst SlotsFew e (three-slots f)

pub put_page-requires : goal.put_page-requires
put_page-requires c = (omega arith, few _ c.in-Ok.s (sym c.of_file.ensures ∙ c.in-Ok.is))

pub returns-in-Ok : goal.returns-in-Ok
unfolding show_text
returns-in-Ok c =
    let s = c.in-Ok.s in
    let e : sheet_of c.args.file.now ≡ Ok s = sym c.of_file.ensures ∙ c.in-Ok.is in
    rw (e, c.put_page.ensures, c.new-page.ensures) (fits 9216 (page_text s) (omega (arith, (page-most s (few _ s e)).most)))

pub returns-in-Err : goal.returns-in-Err
unfolding show_text
returns-in-Err c =
    let e : sheet_of c.args.file.now ≡ Err c.in-Err.r = sym c.of_file.ensures ∙ c.in-Err.is in
    rw (e, c.put_refusal.ensures, c.new-page.ensures) (fits 9216 (refusal_text c.in-Err.r) (omega (arith, (refusal-most c.in-Err.r).most)))
