-- A circuit's sheet, marked and as text: the refusals of `sheet`, after the room lent.
use mathlib.Core.Bool.{Bool, true, false}
use mathlib.Core.List.{List}
use mathlib.Core.Path.{◌≡◌, refl}
use Prim.Native.Nat.{ℕ}
use lib.Dec.{ltb}
use lib.ListN.{length}
use Rattle.std.specs.Prelude.{Option, Result, Ok, Err, IfErr}
use Rattle.refusal.specs.Number.{number_of, answer_number}
use Rattle.refusal.specs.declared.Refusal.{Refusal}
use Rattle.records.specs.Chain.{member}
use Rattle.circuit_sheet.specs.CircuitSheet.{sheet_of}
use Rattle.circuit_sheet.specs.declared.Sheet.{Sheet}
use Rattle.sheet_text.specs.SheetText.{sheet_text}
use Rattle.marking.specs.Answer.{sheet_most, sized_by, sized_of, text_marked_by, text_marked}
use Rattle.marking.specs.Marked.{length_filled, file_in, sheet_in, sheet_marked, marked_of}
use Rattle.port_mark.specs.Exports as mark
use Rattle.port_text.specs.Left as lent
use Rattle.port_text.specs.Exports.{sheet_left}
use Rattle.sheet_refusals.specs.Refusals as programs
use Rattle.sheet_refusals.proofs.Sheet.{sheet-refusals}
use Rattle.export_refusals.specs.Exports.{OneOf, mark_numbers, sheet_text_numbers}
use Rattle.export_refusals.proofs.Cases.{either, by-answer, within, longer}

outcome-by : (numbers f : List ℕ) (a : Result Sheet Refusal) → within programs.sheet_numbers numbers ≡ true → sheet_of f ≡ a → IfErr a (programs.Among numbers)
outcome-by numbers f (Ok s) w e = tt
outcome-by numbers f (Err r) w e = longer (number_of r) numbers programs.sheet_numbers w (sheet-refusals f r e)

-- `sheet`'s numbers are among these
sheet-in : (numbers f : List ℕ) → within programs.sheet_numbers numbers ≡ true → IfErr (sheet_of f) (programs.Among numbers)
sheet-in numbers f w = outcome-by numbers f (sheet_of f) w refl

-- ---- marked

text_in : (a : Result Sheet Refusal) (long : Bool) (ours theirs : List ℕ) → IfErr a (programs.Among mark_numbers) → OneOf mark_numbers (answer_number (text_marked_by (sized_by a long) ours theirs))
unfolding member
text_in (Ok s) true ours theirs p = refl
text_in (Ok s) false ours theirs p = refl
text_in (Err r) long ours theirs p = p

pub mark-numbers : (input out : List ℕ) → OneOf mark_numbers (mark.mark_left input out).number
unfolding mark.mark_left marked_of sheet_marked text_marked sized_of within member
mark-numbers input out =
    let file = file_in input in
    let theirs = sheet_in input in
    either (λ (a : mark.Ported). OneOf mark_numbers a.number) (ltb (length out) 1) _ _ refl
    (either (λ (m : Result (Option ℕ) Refusal). OneOf mark_numbers (answer_number m)) (length_filled input) _ _
    (text_in (sheet_of file) (ltb sheet_most (length theirs)) (sheet_text file) theirs (sheet-in mark_numbers file refl))
    refl)

-- ---- as text

pub sheet-text-numbers : (file out words : List ℕ) → OneOf sheet_text_numbers (sheet_left file out words).number
unfolding sheet_left within member
sheet-text-numbers file out words =
    let P : lent.PortedText → Type 0 = λ a. OneOf sheet_text_numbers a.number in
    either P (ltb (length out) 8192) _ _ refl
    (either P (ltb (length words) 1) _ _ refl
    (by-answer sheet_text_numbers (λ a. (lent.left_by a (sheet_text file) out words).number) (λ s. refl) (λ r. refl) (sheet_of file) (sheet-in sheet_text_numbers file refl)))
