-- The page of a sheet: the MUFs, then of each slot its thirty rows and the runs of its marks, and what the segments mean; of a refused file the refusal and its reason.
use Rattle.std.specs.Prelude.{List, [], ◌∷◌, ◌++◌, ℕ, get_or}
use Rattle.refusal.specs.declared.Refusal.{Refusal}
use Rattle.lines.specs.Text.{line_feed, decimal_of, refused_text, joined}
use Rattle.lines.specs.Ascii.{ascii}
use Rattle.show_text.specs.MufTable.{mufs_text}
use Rattle.show_text.specs.RowTable.{rows_text}
use Rattle.show_text.specs.RunText.{runs_text}
use Rattle.show_text.specs.ReasonText.{reason_of}
use Rattle.circuit_sheet.specs.declared.Sheet.{Sheet}
use Rattle.circuit_sheet.specs.declared.SlotRows.{SlotRows}
use Rattle.circuit_sheet.specs.CircuitSheet.{no_slot_rows}

unfoldable pub slot_page : SlotRows → ℕ → List ℕ
slot_page rows k =
    ascii "\nSlot "
    ++ (decimal_of k
    ++ (ascii "\nrow      MHz   true km  virtual km       loss  segment\n"
    ++ (rows_text rows.ion
    ++ (ascii "\nheights   shape\n"
    ++ runs_text rows.marks))))

abbrev pub slot_page_at : List SlotRows → ℕ → List ℕ
slot_page_at rows k = slot_page (get_or rows k no_slot_rows) k

abbrev pub legend : List ℕ
legend = ascii "\nSegment n lies between heights n + 1 and n + 2 of the slot's profile;\ntop: no segment holds the true height; -: none was looked for.\n"

unfoldable pub page_text : Sheet → List ℕ
page_text s = mufs_text s.hour ++ (joined (slot_page_at s.rows) s.slots ++ legend)

unfoldable pub refusal_text : Refusal → List ℕ
refusal_text r = refused_text r ++ (reason_of r ++ (line_feed ∷ []))
