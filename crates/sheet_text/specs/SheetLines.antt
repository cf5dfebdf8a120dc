-- The text of an answered sheet: the lines of `muf` and `call`, then for each slot its number, thirty rows and fifty marks.
use Rattle.std.specs.Prelude.{List, [], ◌∷◌, ◌++◌, ℕ, ℤ, pos, negsuc, get_or}
use Rattle.lines.specs.Text.{space, line_feed, decimal_of, field_of, joined}
use Rattle.muf.specs.declared.MufHour.{MufHour}
use Rattle.circuit_sheet.specs.declared.Sheet.{Sheet}
use Rattle.circuit_sheet.specs.declared.SlotRows.{SlotRows}
use Rattle.circuit_sheet.specs.CircuitSheet.{no_slot_rows}
use Rattle.figures.specs.Figure.{figure_of}
use Rattle.figures.specs.FigureText.{figure_text}
use Rattle.mark_text.specs.MarkText.{marks_text}
use Rattle.sheet_text.specs.SheetRows.{bits_field, row_line}

-- `muf`, `call ` and `slot ` in ASCII
abbrev pub muf_word : List ℕ
muf_word = 109 ∷ 117 ∷ 102 ∷ []

abbrev pub call_word : List ℕ
call_word = 99 ∷ 97 ∷ 108 ∷ 108 ∷ space ∷ []

abbrev pub slot_word : List ℕ
slot_word = 115 ∷ 108 ∷ 111 ∷ 116 ∷ space ∷ []

-- E, F1, F2, Es and circuit MUF
unfoldable pub muf_fields : MufHour → List ℕ
muf_fields h = bits_field h.emuf ++ (bits_field h.f1muf ++ (bits_field h.f2muf ++ (bits_field h.esmuf ++ bits_field h.allmuf)))

-- the mode as a natural number; it is 1 to 3
abbrev pub natural : ℤ → ℕ
natural (pos n) = n
natural (negsuc n) = 0

-- then the mode and the controlling slot
unfoldable pub muf_line : MufHour → List ℕ
muf_line h = muf_word ++ (muf_fields h ++ (field_of (natural h.modmuf) ++ (field_of h.ks ++ (line_feed ∷ []))))

-- the circuit MUF to the nearest tenth, in five characters
unfoldable pub call_line : MufHour → List ℕ
call_line h = call_word ++ (figure_text (figure_of h.allmuf) ++ (line_feed ∷ []))

unfoldable pub slot_line : ℕ → List ℕ
slot_line k = slot_word ++ (decimal_of k ++ (line_feed ∷ []))

unfoldable pub slot_text : SlotRows → ℕ → List ℕ
slot_text rows k = slot_line k ++ (joined (row_line rows.ion) 30 ++ marks_text rows.marks)

abbrev pub slot_text_at : List SlotRows → ℕ → List ℕ
slot_text_at rows k = slot_text (get_or rows k no_slot_rows) k

unfoldable pub answered_text : Sheet → List ℕ
answered_text s = muf_line s.hour ++ (call_line s.hour ++ joined (slot_text_at s.rows) s.slots)
