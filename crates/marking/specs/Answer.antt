-- The marking of a text, theirs, beside ours, which is the text of something that was answered or refused. Its refusal comes
-- first, then 20 for a text over 49,152 bytes; else the two are compared line by line.
use Rattle.std.specs.Prelude.{ℕ, Bool, true, false, List, [], ◌∷◌, Option, None, Some, Result, Ok, Err, ltb, length}
use Rattle.refusal.specs.declared.Refusal.{Refusal}
use Rattle.first_difference.specs.Difference.{verdict_of}

-- the bytes that their text may have
abbrev pub sheet_most : ℕ
sheet_most = 49152

abbrev pub sized_by : {T : Type 0} → Result T Refusal → Bool → Result T Refusal
sized_by (Ok t) true = Err Refusal.SheetLength
sized_by (Ok t) false = Ok t
sized_by (Err r) long = Err r

unfoldable pub sized_of : {T : Type 0} → Result T Refusal → ℕ → Result T Refusal
sized_of o size = sized_by o (ltb sheet_most size)

-- the number of the first line that is not ours, none for the same
abbrev pub marking_of : Option ℕ → Result (Option ℕ) Refusal
marking_of v = Ok v

abbrev pub text_marked_by : {T : Type 0} → Result T Refusal → List ℕ → List ℕ → Result (Option ℕ) Refusal
text_marked_by (Ok t) ours theirs = marking_of (verdict_of ours theirs)
text_marked_by (Err r) ours theirs = Err r

unfoldable pub text_marked : {T : Type 0} → Result T Refusal → List ℕ → List ℕ → Result (Option ℕ) Refusal
text_marked o ours theirs = text_marked_by (sized_of o (length theirs)) ours theirs

-- the number of the line, 0 for the same; none beside a refusal
abbrev pub marking_values : Result (Option ℕ) Refusal → List ℕ
marking_values (Ok None) = 0 ∷ []
marking_values (Ok (Some n)) = n ∷ []
marking_values (Err r) = []
