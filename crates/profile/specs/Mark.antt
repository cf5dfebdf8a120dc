-- The number of each mark, which is ours, and its name, spelled as in the paper, in ASCII.
use Rattle.std.specs.Prelude.{List, [], ◌∷◌, ℕ}
use Rattle.profile.specs.declared.shapes.Mark.{Mark}

-- of the shapes 1 to 5, in the paper's order
abbrev pub mark_number_of : Mark → ℕ
mark_number_of Mark.None = 0
mark_number_of Mark.Tail = 1
mark_number_of Mark.E = 2
mark_number_of Mark.Valley = 3
mark_number_of Mark.F1 = 4
mark_number_of Mark.F2 = 5
mark_number_of Mark.Gap = 6

-- none, D-E tail, E parabola, valley line, F1, F2, gap
unfoldable pub name_of : Mark → List ℕ
name_of Mark.None = 110 ∷ 111 ∷ 110 ∷ 101 ∷ []
name_of Mark.Tail = 68 ∷ 45 ∷ 69 ∷ 32 ∷ 116 ∷ 97 ∷ 105 ∷ 108 ∷ []
name_of Mark.E = 69 ∷ 32 ∷ 112 ∷ 97 ∷ 114 ∷ 97 ∷ 98 ∷ 111 ∷ 108 ∷ 97 ∷ []
name_of Mark.Valley = 118 ∷ 97 ∷ 108 ∷ 108 ∷ 101 ∷ 121 ∷ 32 ∷ 108 ∷ 105 ∷ 110 ∷ 101 ∷ []
name_of Mark.F1 = 70 ∷ 49 ∷ []
name_of Mark.F2 = 70 ∷ 50 ∷ []
name_of Mark.Gap = 103 ∷ 97 ∷ 112 ∷ []
