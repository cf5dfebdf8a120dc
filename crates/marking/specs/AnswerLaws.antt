-- What holds of a marking, for all texts.
use Rattle.std.specs.Prelude.{ℕ, ◌+◌, ◌≤◌, ◌<◌, ◌≡◌, ◌↔◌, List, None, Some, Result, Ok, Err, length, take}
use Rattle.refusal.specs.declared.Refusal.{Refusal}
use Rattle.first_difference.specs.Closed.{feeds_of, common_of}
use Rattle.first_difference.specs.Laws.{FirstOther}
use Rattle.marking.specs.Answer.{sheet_most, text_marked}

-- ours was answered, and theirs is within the size
pub record Markable {T : Type 0} (o : Result T Refusal) (theirs : List ℕ) : Type 0 where
  pub answered : (t : T) × (o ≡ Ok t)
  pub within : length theirs ≤ sheet_most

pub record TextLaws (T : Type 0) : Type 0 where
  -- `same` just where theirs is ours
  pub same : (o : Result T Refusal) (ours theirs : List ℕ)
      → (text_marked o ours theirs ≡ Ok None) ↔ (Markable o theirs × (theirs ≡ ours))
  -- `differs` with the number of the first line that is not ours, and with no other
  pub differs : (o : Result T Refusal) (ours theirs : List ℕ) (n : ℕ)
      → (text_marked o ours theirs ≡ Ok (Some n)) ↔ (Markable o theirs × FirstOther ours theirs n)
  -- it is 1 and the line feeds in the longest common beginning
  pub closed : (o : Result T Refusal) (ours theirs : List ℕ) (n : ℕ) → text_marked o ours theirs ≡ Ok (Some n)
      → n ≡ 1 + feeds_of (take (common_of ours theirs) ours)
  -- a line has a byte, so the number is at most 1 and the bytes
  pub most : (o : Result T Refusal) (ours theirs : List ℕ) (n : ℕ) → text_marked o ours theirs ≡ Ok (Some n) → n ≤ 1 + length theirs
  -- our refusal, whatever theirs is; then the size
  pub refused : (r : Refusal) (ours theirs : List ℕ) → text_marked {T = T} (Err r) ours theirs ≡ Err r
  pub long : (t : T) (ours theirs : List ℕ) → sheet_most < length theirs
      → text_marked (Ok t) ours theirs ≡ Err Refusal.SheetLength
