-- What the export answers, and the bytes and words that it leaves. Room for fewer than 8,192 bytes, or for no word, is refused with 1, before all else.
use Rattle.std.specs.Prelude.{cond, List, ℕ, ltb, length}
use Rattle.port_text.specs.Left.{PortedText, refused_lent, left_by}
use Rattle.circuit_sheet.specs.CircuitSheet.{sheet_of}
use Rattle.sheet_text.specs.SheetText.{sheet_text}

unfoldable pub sheet_left : List ℕ → List ℕ → List ℕ → PortedText
sheet_left file out words =
    cond (ltb (length out) 8192) (refused_lent 1 out words)
    (cond (ltb (length words) 1) (refused_lent 1 out words)
    (left_by (sheet_of file) (sheet_text file) out words))
