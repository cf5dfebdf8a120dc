-- The lines of a slot's marks: the height's number, from 1, and the name of the shape that made its density, as in `7 E parabola`.
use Rattle.std.specs.Prelude.{List, [], ◌∷◌, ◌++◌, ℕ, ◌+◌, get_or}
use Rattle.lines.specs.Text.{space, line_feed, decimal_of, joined}
use Rattle.profile.specs.Mark.{name_of}
use Rattle.profile.specs.declared.shapes.Mark.{Mark}

unfoldable pub mark_line : ℕ → Mark → List ℕ
mark_line i m = decimal_of (i + 1) ++ ((space ∷ []) ++ (name_of m ++ (line_feed ∷ [])))

-- past the end, where no code reads
abbrev pub no_mark : Mark
no_mark = Mark.None

abbrev pub mark_line_at : List Mark → ℕ → List ℕ
mark_line_at marks i = mark_line i (get_or marks i no_mark)

unfoldable pub marks_text : List Mark → List ℕ
marks_text marks = joined (mark_line_at marks) 50
