-- The number of the line by bytes: 1 and the line feeds in the longest common beginning.
use Rattle.std.specs.Prelude.{Option, None, Some, ℕ, suc, ◌+◌, cond, List, [], ◌∷◌, eqb, take}
use Rattle.lines.specs.Text.{line_feed}
use Rattle.first_difference.specs.Difference.{same_bytes}

-- the line feeds in one byte, and in many
unfoldable pub feed_of : ℕ → ℕ
feed_of b = cond (eqb b line_feed) 1 0

unfoldable pub feeds_of : List ℕ → ℕ
feeds_of [] = 0
feeds_of (b ∷ t) = feed_of b + feeds_of t

-- the longest common beginning has so many bytes
unfoldable pub common_of : List ℕ → List ℕ → ℕ
common_of [] t = 0
common_of (a ∷ s) [] = 0
common_of (a ∷ s) (b ∷ t) = cond (eqb a b) (suc (common_of s t)) 0

unfoldable pub closed_of : List ℕ → List ℕ → Option ℕ
closed_of ours theirs =
    cond (same_bytes ours theirs) None (Some (1 + feeds_of (take (common_of ours theirs) ours)))
