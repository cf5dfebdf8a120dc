-- What `show` prints of a circuit file: the page of its sheet, or the refusal and its reason.
use Rattle.std.specs.Prelude.{List, ℕ, Result, Ok, Err}
use Rattle.refusal.specs.declared.Refusal.{Refusal}
use Rattle.circuit_sheet.specs.declared.Sheet.{Sheet}
use Rattle.circuit_sheet.specs.CircuitSheet.{sheet_of}
use Rattle.show_text.specs.Page.{page_text, refusal_text}

abbrev pub show_text_by : Result Sheet Refusal → List ℕ
show_text_by (Ok s) = page_text s
show_text_by (Err r) = refusal_text r

unfoldable pub show_text : List ℕ → List ℕ
show_text f = show_text_by (sheet_of f)
