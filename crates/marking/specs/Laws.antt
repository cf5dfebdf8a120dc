-- What holds of a marking, for all lists of bytes.
use Rattle.std.specs.Prelude.{ℕ, ◌+◌, ◌≤◌, ◌<◌, ◌≡◌, ◌↔◌, List, [], ◌∷◌, ◌++◌, None, Some, Ok, Err, length, take}
use Rattle.refusal.specs.declared.Refusal.{Refusal}
use Rattle.lines.specs.Text.{line_feed}
use Rattle.circuit_sheet.specs.declared.Sheet.{Sheet}
use Rattle.circuit_sheet.specs.CircuitSheet.{sheet_of}
use Rattle.sheet_text.specs.SheetText.{sheet_text}
use Rattle.first_difference.specs.Lines.{lines_of}
use Rattle.first_difference.specs.Closed.{feeds_of, common_of}
use Rattle.first_difference.specs.Laws.{FirstOther, Ended, carriage_return}
use Rattle.marking.specs.Answer.{sheet_most}
use Rattle.marking.specs.Marked.{size_in, file_in, sheet_in, marked_of}

-- the input has four bytes, and after them as many as they say
pub record Filled (input : List ℕ) : Type 0 where
  pub four : 4 ≤ length input
  pub file : 4 + size_in input ≤ length input

-- and the circuit is one that `sheet` does not refuse
pub record Answers (input : List ℕ) : Type 0 where
  pub there : Filled input
  pub answered : (s : Sheet) × (sheet_of (file_in input) ≡ Ok s)

-- what `sheet` prints of the file
abbrev pub ours_in : List ℕ → List ℕ
ours_in input = sheet_text (file_in input)

-- the bytes that decide: 4 of length, the longest file's, and one more than the longest sheet's
abbrev pub input_most : ℕ
input_most = 4 + 4096 + (sheet_most + 1)

-- what is answered
pub record MarkingLaws : Type 0 where
  -- `same` just where the rest of the input is the text that `sheet` prints of the file
  pub same : (input : List ℕ) → (marked_of input ≡ Ok None) ↔ (Answers input × (sheet_in input ≡ ours_in input))
  -- `differs` just where a sheet within the size is not, with the number of its first line that is not ours
  pub differs : (input : List ℕ) (n : ℕ)
      → (marked_of input ≡ Ok (Some n))
      ↔ (Answers input × (length (sheet_in input) ≤ sheet_most) × FirstOther (ours_in input) (sheet_in input) n)
  -- which is 1 and the line feeds in the longest common beginning, and at most 1 and the bytes of the sheet
  pub closed : (input : List ℕ) (n : ℕ) → marked_of input ≡ Ok (Some n)
      → n ≡ 1 + feeds_of (take (common_of (ours_in input) (sheet_in input)) (ours_in input))
  pub most : (input : List ℕ) (n : ℕ) → marked_of input ≡ Ok (Some n) → n ≤ 1 + sheet_most
  -- the refusals, in their order
  pub unfilled : (input : List ℕ) → (Filled input → ⊥) → marked_of input ≡ Err Refusal.Length
  pub circuit : (input : List ℕ) (r : Refusal) → Filled input → sheet_of (file_in input) ≡ Err r
      → marked_of input ≡ Err r
  pub long : (input : List ℕ) → Answers input → sheet_most < length (sheet_in input)
      → marked_of input ≡ Err Refusal.SheetLength
  -- bytes past these decide nothing, so a program need not read them
  pub decided : (input : List ℕ) (m : ℕ) → input_most ≤ m → marked_of (take m input) ≡ marked_of input

-- the paper's cases, of a circuit that `sheet` does not refuse; the sheet is within the size, or shorter than ours
pub record MarkingCases : Type 0 where
  -- a sheet that ends early after a line feed: the line after its last
  pub early : (input rest : List ℕ) → Answers input → ours_in input ≡ sheet_in input ++ rest → (rest ≡ [] → ⊥)
      → Ended (sheet_in input) → marked_of input ≡ Ok (Some (1 + length (lines_of (sheet_in input))))
  -- an empty one
  pub none : (input : List ℕ) → Answers input → sheet_in input ≡ [] → marked_of input ≡ Ok (Some 1)
  -- the last line feed missing: our last line
  pub unended : (input : List ℕ) → Answers input → ours_in input ≡ sheet_in input ++ (line_feed ∷ [])
      → marked_of input ≡ Ok (Some (length (lines_of (ours_in input))))
  -- lines too many: the line after our last
  pub more : (input rest : List ℕ) → Answers input → length (sheet_in input) ≤ sheet_most
      → sheet_in input ≡ ours_in input ++ rest → (rest ≡ [] → ⊥)
      → marked_of input ≡ Ok (Some (1 + length (lines_of (ours_in input))))
  -- a carriage return before a line feed: the line that it ends
  pub carriage : (input p s t : List ℕ) → Answers input → length (sheet_in input) ≤ sheet_most
      → ours_in input ≡ p ++ (line_feed ∷ s) → sheet_in input ≡ p ++ (carriage_return ∷ (line_feed ∷ t))
      → marked_of input ≡ Ok (Some (1 + feeds_of p))
