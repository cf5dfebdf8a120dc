-- A text answered in lent bytes, and its length in a lent word. A refusal leaves every byte and word as it was.
use Rattle.std.specs.Prelude.{List, [], ℕ, Result, Ok, Err, length, set}
use Rattle.std.specs.Borrow.{Bor}
use Rattle.std.proofs.lemmas.List.Edits.{sets}
use Rattle.refusal.specs.Number.{number_of}
use Rattle.refusal.specs.declared.Refusal.{Refusal}

-- the number answered, and the bytes and words lent, afterwards
pub record PortedText : Type 0 where
  pub number : ℕ
  pub bytes : List ℕ
  pub words : List ℕ

abbrev pub refused_lent : ℕ → List ℕ → List ℕ → PortedText
refused_lent number bytes words = record { number = number; bytes = bytes; words = words }

-- the bytes of a text; a refusal has none
abbrev pub text_bytes : Result (Bor (List ℕ)) Refusal → List ℕ
text_bytes (Ok t) = t.now
text_bytes (Err r) = []

-- the text at the start, its length as the first word; bytes and words past these stay
abbrev pub left_by : {T : Type 0} → Result T Refusal → List ℕ → List ℕ → List ℕ → PortedText
left_by (Ok t) text bytes words = record { number = 0; bytes = sets bytes 0 text; words = set words 0 (length text) }
left_by (Err r) text bytes words = refused_lent (number_of r) bytes words
