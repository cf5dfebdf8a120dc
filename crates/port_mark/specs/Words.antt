-- A marking as words.
use Rattle.std.specs.Prelude.{List, ℕ, ◌<◌, Option, None, Some, Result, Ok, Err}
use Rattle.std.proofs.lemmas.List.Edits.{sets}
use Rattle.refusal.specs.declared.Refusal.{Refusal}
use Rattle.marking.specs.Answer.{marking_values}

-- the number of the line fits a word
abbrev pub SmallLine : Result (Option ℕ) Refusal → Type 0
SmallLine (Ok None) = Unit {0}
SmallLine (Ok (Some n)) = n < 0x1_0000_0000
SmallLine (Err r) = Unit {0}

-- the answer's values, one after the other; a refusal has none
abbrev pub marking_into : Result (Option ℕ) Refusal → List ℕ → List ℕ
marking_into m out = sets out 0 (marking_values m)
