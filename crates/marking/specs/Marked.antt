-- The marking of an input: four bytes of length, least significant first, the circuit file, then the sheet. Refused are, in this
-- order, an input that is under four bytes or does not fill the length (1), the circuit as `sheet` refuses it, and a sheet over
-- 49,152 bytes (20). Else the sheet is compared with what `sheet` prints of the file.
use Rattle.std.specs.Prelude.{ℕ, ◌+◌, Option, Result, Err, Bool, cond, ◌&&◌, List, leb, length, take, drop}
use Rattle.refusal.specs.declared.Refusal.{Refusal}
use Rattle.records.specs.Record.{word_at}
use Rattle.circuit_sheet.specs.CircuitSheet.{sheet_of}
use Rattle.sheet_text.specs.SheetText.{sheet_text}
use Rattle.marking.specs.Answer.{text_marked}
use Rattle.marking.specs.Text.{marking_text}

-- the parts of an input: the length of the file, the file, the sheet
abbrev pub size_in : List ℕ → ℕ
size_in input = word_at input 0

abbrev pub file_in : List ℕ → List ℕ
file_in input = take (size_in input) (drop 4 input)

abbrev pub sheet_in : List ℕ → List ℕ
sheet_in input = drop (4 + size_in input) input

-- the input has four bytes, and after them as many as they say
unfoldable pub length_filled : List ℕ → Bool
length_filled input = leb 4 (length input) && leb (4 + size_in input) (length input)

-- a sheet beside its file
unfoldable pub sheet_marked : List ℕ → List ℕ → Result (Option ℕ) Refusal
sheet_marked file sheet = text_marked (sheet_of file) (sheet_text file) sheet

unfoldable pub marked_of : List ℕ → Result (Option ℕ) Refusal
marked_of input = cond (length_filled input) (sheet_marked (file_in input) (sheet_in input)) (Err Refusal.Length)

-- what `mark` prints
unfoldable pub marked_text : List ℕ → List ℕ
marked_text input = marking_text (marked_of input)
