-- Our text is what `sheet` prints, or its refusal is handed on.
use mathlib.Core.List.{List}
use mathlib.Core.Path.{◌≡◌, sym, ap, ◌∙◌}
use Prim.Native.Nat.{ℕ}
use native.Mathlib.Omega.{arith}
use Rattle.std.specs.Prelude.{Result, Ok, Err}
use Rattle.refusal.specs.declared.Refusal.{Refusal}
use Rattle.std.proofs.lemmas.Result.{err_from_is_err_and}
use Rattle.circuit_sheet.specs.declared.Sheet.{Sheet}
use Rattle.circuit_sheet.specs.CircuitSheet.{sheet_of}
use Rattle.sheet_text.specs.SheetText.{sheet_text_by, sheet_text, text_by, answered_text}
use Rattle.marking.specs.Answer.{text_marked}
use Rattle.marking.proofs.marking_answer.Laws.{any-answer, text-laws}
use Rattle.marking.specs.Marked.{sheet_marked}
use Rattle.marking.proofs.mark_sheet.Goals as goal

answered : (a : Result Sheet Refusal) (ours theirs : List ℕ) → Ok ours ≡ text_by a
    → text_marked (Ok (tt {0})) ours theirs ≡ text_marked a (sheet_text_by a) theirs
answered (Ok s) ours theirs e =
    let f : ours ≡ answered_text s = cc in
    any-answer (tt {0}) s ours theirs ∙ ap (λ (t : List ℕ). text_marked (Ok s) t theirs) f
answered (Err r) ours theirs e = let z : ◌≡◌ {A = ℕ} 0 1 = cc in absurd (omega arith)

refused : (a : Result Sheet Refusal) (r : Refusal) (theirs : List ℕ) → Err r ≡ text_by a
    → Err r ≡ text_marked a (sheet_text_by a) theirs
refused (Ok s) r theirs e = let z : ◌≡◌ {A = ℕ} 0 1 = cc in absurd (omega arith)
refused (Err q) r theirs e = let f : r ≡ q = cc in ap Err f ∙ sym (text-laws.refused q (sheet_text_by (Err q)) theirs)

pub returns-in_err-ours : goal.returns-in_err-ours
unfolding sheet_marked sheet_text
returns-in_err-ours c =
    let p = err_from_is_err_and c.from_residual.result c.from_residual.ensures.1 in
    p.1 ∙ ap Err p.2 ∙ refused (sheet_of c.args.file.now) _ _ c.in_err-ours.ensures

pub returns : goal.returns
unfolding sheet_marked sheet_text
returns c = rw c.text.ensures at c.marked.ensures ∙ answered (sheet_of c.args.file.now) _ _ c.in_ok-ours.ensures
