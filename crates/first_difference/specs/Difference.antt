-- Two texts line by line: the same, or the number of the first line of theirs that is not ours, counted from 1. A text that ends
-- early differs at the line after its last.
use Rattle.std.specs.Prelude.{Option, None, Some, ℕ, ◌+◌, Bool, true, false, cond, ◌&&◌, List, [], ◌∷◌, eqb}
use Rattle.first_difference.specs.Lines.{lines_of}

-- the bytes of two lines are the same
unfoldable pub same_bytes : List ℕ → List ℕ → Bool
same_bytes [] [] = true
same_bytes [] (b ∷ t) = false
same_bytes (a ∷ s) [] = false
same_bytes (a ∷ s) (b ∷ t) = eqb a b && same_bytes s t

-- from line n on
unfoldable pub verdict_from : ℕ → List (List ℕ) → List (List ℕ) → Option ℕ
verdict_from n [] [] = None
verdict_from n [] (t ∷ ts) = Some n
verdict_from n (o ∷ os) [] = Some n
verdict_from n (o ∷ os) (t ∷ ts) = cond (same_bytes o t) (verdict_from (n + 1) os ts) (Some n)

unfoldable pub verdict_of : List ℕ → List ℕ → Option ℕ
verdict_of ours theirs = verdict_from 1 (lines_of ours) (lines_of theirs)
