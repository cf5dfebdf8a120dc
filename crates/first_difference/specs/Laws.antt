-- What holds of two texts compared, for all lists of bytes.
use Rattle.std.specs.Prelude.{None, Some, ℕ, ◌+◌, ◌≤◌, ◌<◌, ◌≡◌, ◌⊎◌, ◌↔◌, List, [], ◌∷◌, ◌++◌, length, take}
use Rattle.lines.specs.Text.{line_feed}
use Rattle.first_difference.specs.Lines.{lines_of, text_line_at}
use Rattle.first_difference.specs.Difference.{verdict_of}
use Rattle.first_difference.specs.Closed.{feeds_of, common_of, closed_of}

-- line n of theirs is the first that is not ours
pub record FirstOther (ours theirs : List ℕ) (n : ℕ) : Type 0 where
  pub counted : 1 ≤ n
  pub before : (k : ℕ) → 1 ≤ k → k < n → text_line_at theirs k ≡ text_line_at ours k
  pub other : text_line_at theirs n ≡ text_line_at ours n → ⊥

-- the first n bytes are common to both, and no more are
pub record Longest (s t : List ℕ) (n : ℕ) : Type 0 where
  pub within : (n ≤ length s) × (n ≤ length t)
  pub common : take n s ≡ take n t
  pub longest : (m : ℕ) → m ≤ length s → m ≤ length t → take m s ≡ take m t → m ≤ n

-- a text that is empty or ends with a line feed
abbrev pub Ended : List ℕ → Type 0
Ended t = (t ≡ []) ⊎ ((p : List ℕ) × (t ≡ p ++ (line_feed ∷ [])))

-- ASCII's carriage return
abbrev pub carriage_return : ℕ
carriage_return = 13

pub record DifferenceLaws : Type 0 where
  -- `same` for the same bytes, and for no others
  pub same : (ours theirs : List ℕ) → (verdict_of ours theirs ≡ None) ↔ (theirs ≡ ours)
  -- `differs` with the number of the first line that is not ours, and with no other
  pub differs : (ours theirs : List ℕ) (n : ℕ) → (verdict_of ours theirs ≡ Some n) ↔ FirstOther ours theirs n
  -- it is 1 and the line feeds in the longest common beginning
  pub closed : (ours theirs : List ℕ) → verdict_of ours theirs ≡ closed_of ours theirs
  pub common : (s t : List ℕ) → Longest s t (common_of s t)
  -- a text that ends early after a line feed, or is empty: the line after its last
  pub early : (theirs rest : List ℕ) → Ended theirs → (rest ≡ [] → ⊥)
      → verdict_of (theirs ++ rest) theirs ≡ Some (1 + length (lines_of theirs))
  pub none : (ours : List ℕ) → (ours ≡ [] → ⊥) → verdict_of ours [] ≡ Some 1
  -- the last line feed missing: our last line
  pub unended : (theirs : List ℕ)
      → verdict_of (theirs ++ (line_feed ∷ [])) theirs ≡ Some (length (lines_of (theirs ++ (line_feed ∷ []))))
  -- lines too many, or bytes after our last line: the line after our last
  pub more : (ours rest : List ℕ) → Ended ours → (rest ≡ [] → ⊥)
      → verdict_of ours (ours ++ rest) ≡ Some (1 + length (lines_of ours))
  -- another byte: the line in which it stands
  pub byte : (p s t : List ℕ) (a b : ℕ) → (a ≡ b → ⊥)
      → verdict_of (p ++ (a ∷ s)) (p ++ (b ∷ t)) ≡ Some (1 + feeds_of p)
  -- a carriage return before the line feed: the line that it ends
  pub carriage : (p s t : List ℕ)
      → verdict_of (p ++ (line_feed ∷ s)) (p ++ (carriage_return ∷ (line_feed ∷ t))) ≡ Some (1 + feeds_of p)
  -- a text of n bytes has at most n lines, so the number is at most 1 and their bytes
  pub most : (ours theirs : List ℕ) (n : ℕ) → verdict_of ours theirs ≡ Some n → n ≤ 1 + length theirs
