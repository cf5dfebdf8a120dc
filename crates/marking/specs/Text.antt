-- The line of a marking: `same`, `differs` and the number of the line, or only the refusal.
use Rattle.std.specs.Prelude.{ℕ, Option, None, Some, Result, Ok, Err, List, [], ◌∷◌, ◌++◌}
use Rattle.lines.specs.Text.{space, line_feed, decimal_of, refused_text}
use Rattle.refusal.specs.declared.Refusal.{Refusal}

-- `same` with its line feed, and `differs ` in ASCII
abbrev pub same_line : List ℕ
same_line = 115 ∷ 97 ∷ 109 ∷ 101 ∷ line_feed ∷ []

abbrev pub differs_word : List ℕ
differs_word = 100 ∷ 105 ∷ 102 ∷ 102 ∷ 101 ∷ 114 ∷ 115 ∷ space ∷ []

unfoldable pub differs_text : ℕ → List ℕ
differs_text n = differs_word ++ (decimal_of n ++ (line_feed ∷ []))

abbrev pub marking_text : Result (Option ℕ) Refusal → List ℕ
marking_text (Ok None) = same_line
marking_text (Ok (Some n)) = differs_text n
marking_text (Err r) = refused_text r
