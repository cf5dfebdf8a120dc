-- A text as lines. A line is taken with its line feed; what stands after the last line feed, where something does, is a line too.
use Rattle.std.specs.Prelude.{ℕ, ◌-◌, cond, List, [], ◌∷◌, eqb, get_or}
use Rattle.lines.specs.Text.{line_feed}

-- a byte in front of the first line; where there is none it is a line by itself
abbrev pub in_front : ℕ → List (List ℕ) → List (List ℕ)
in_front b [] = (b ∷ []) ∷ []
in_front b (l ∷ ls) = (b ∷ l) ∷ ls

unfoldable pub lines_of : List ℕ → List (List ℕ)
lines_of [] = []
lines_of (b ∷ t) = cond (eqb b line_feed) ((b ∷ []) ∷ lines_of t) (in_front b (lines_of t))

-- Line n, counted from 1. No line is empty, so that [] stands for the lines past the last.
abbrev pub text_line_at : List ℕ → ℕ → List ℕ
text_line_at t n = get_or (lines_of t) (n - 1) []
