-- What `sheet` prints: the lines of an answered sheet; of a refused file only the refusal.
use Rattle.std.specs.Prelude.{List, ℕ, ◌≤◌, Result, Ok, Err, ⊤}
use Rattle.refusal.specs.declared.Refusal.{Refusal}
use Rattle.lines.specs.Text.{refused_text}
use Rattle.circuit_sheet.specs.declared.Sheet.{Sheet}
use Rattle.circuit_sheet.specs.CircuitSheet.{sheet_of}
unfoldable pub use Rattle.sheet_text.specs.SheetRows.{row_line}
unfoldable pub use Rattle.sheet_text.specs.SheetLines.{muf_line, call_line, slot_line, slot_text, answered_text}
pub use Rattle.sheet_text.specs.SheetLines.{call_word, slot_text_at}

abbrev pub sheet_text_by : Result Sheet Refusal → List ℕ
sheet_text_by (Ok s) = answered_text s
sheet_text_by (Err r) = refused_text r

unfoldable pub sheet_text : List ℕ → List ℕ
sheet_text f = sheet_text_by (sheet_of f)

-- the text of an answered sheet, or the refusal
abbrev pub text_by : Result Sheet Refusal → Result (List ℕ) Refusal
text_by (Ok s) = Ok (answered_text s)
text_by (Err r) = Err r

-- at most three slots
abbrev pub SlotsFew : Result Sheet Refusal → Type 0
SlotsFew (Ok s) = s.slots ≤ 3
SlotsFew (Err r) = ⊤
