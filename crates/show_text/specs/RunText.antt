-- A slot's marks for the eye. Heights that follow one another with one mark are a run, and a run is a line: its first and its last height, numbered from 1, and the name of the shape, as in `15 to 20  valley line`. A run begins at the lowest height and where the height below has another mark; it ends at the highest one and where the height above has another.
use Rattle.std.specs.Prelude.{Bool, true, false, cond, not, List, [], ◌∷◌, ◌++◌, ℕ, ◌+◌, ◌-◌, eqb, get_or}
use Rattle.lines.specs.Text.{line_feed, decimal_of, joined}
use Rattle.lines.specs.Ascii.{ascii}
use Rattle.lines.specs.Aligned.{right}
use Rattle.profile.specs.Mark.{mark_number_of, name_of}
use Rattle.profile.specs.declared.shapes.Mark.{Mark}
use Rattle.mark_text.specs.MarkText.{no_mark}

unfoldable pub mark_at : List Mark → ℕ → Mark
mark_at marks i = get_or marks i no_mark

abbrev pub same_mark : Mark → Mark → Bool
same_mark m n = eqb (mark_number_of m) (mark_number_of n)

unfoldable pub begins_at : List Mark → ℕ → Bool
begins_at marks i = cond (eqb i 0) true (not (same_mark (mark_at marks (i - 1)) (mark_at marks i)))

unfoldable pub ends_at : List Mark → ℕ → Bool
ends_at marks i = cond (eqb i 49) true (not (same_mark (mark_at marks i) (mark_at marks (i + 1))))

-- a run's first height, numbered from 1
unfoldable pub start_at : ℕ → List ℕ
start_at n = right 2 (decimal_of n) ++ ascii " to "

-- its last height, and the name of its mark
unfoldable pub end_at : ℕ → Mark → List ℕ
end_at n m = right 2 (decimal_of n) ++ (ascii "  " ++ (name_of m ++ (line_feed ∷ [])))

unfoldable pub start_text : Bool → ℕ → List ℕ
start_text true i = start_at (i + 1)
start_text false i = []

unfoldable pub end_text : Bool → ℕ → Mark → List ℕ
end_text true i m = end_at (i + 1) m
end_text false i m = []

unfoldable pub run_text : List Mark → ℕ → List ℕ
run_text marks i = start_text (begins_at marks i) i ++ end_text (ends_at marks i) i (mark_at marks i)

unfoldable pub runs_text : List Mark → List ℕ
runs_text marks = joined (run_text marks) 50
