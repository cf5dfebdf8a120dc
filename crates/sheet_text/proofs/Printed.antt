-- What is printed of a file, by the answer: a sheet's text, or what is said of the refusal.
use mathlib.Core.Path.{◌≡◌, ◌∙◌}
use mathlib.Core.List.{List}
use Prim.Native.Nat.{ℕ}
use native.Mathlib.Omega.{arith}
use Rattle.std.specs.Prelude.{Result, Ok, Err}
use Rattle.std.specs.Result.{MatchResult}
use Rattle.refusal.specs.declared.Refusal.{Refusal}
use Rattle.lines.specs.Text.{refused_text}
use Rattle.circuit_sheet.specs.declared.Sheet.{Sheet}
use Rattle.circuit_sheet.specs.CircuitSheet.{sheet_of}
use Rattle.sheet_text.specs.SheetText.{text_by, sheet_text_by, sheet_text}

text_by_answer : (a : Result Sheet Refusal) (t : List ℕ) → Ok t ≡ text_by a → t ≡ sheet_text_by a
text_by_answer (Ok s) t e = cc
text_by_answer (Err r) t e = let z : ◌≡◌ {A = ℕ} 0 1 = cc in absurd (omega arith)

refusal_by_answer : (a : Result Sheet Refusal) (r : Refusal) → Err r ≡ text_by a → refused_text r ≡ sheet_text_by a
refusal_by_answer (Ok s) r e = let z : ◌≡◌ {A = ℕ} 0 1 = cc in absurd (omega arith)
refusal_by_answer (Err q) r e = let z : r ≡ q = cc in rw z

pub printed : (f t : List ℕ) (a : Result (List ℕ) Refusal) → a ≡ text_by (sheet_of f)
    → MatchResult a (λ x. t ≡ x) (λ r. t ≡ refused_text r) → t ≡ sheet_text f
unfolding sheet_text
printed f t (Ok x) e m = m ∙ text_by_answer (sheet_of f) x e
printed f t (Err r) e m = m ∙ refusal_by_answer (sheet_of f) r e
