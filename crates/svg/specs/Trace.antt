-- The line through the rows of an ionogram, as the data of an SVG path.
use Rattle.std.specs.Prelude.{List, [], ◌++◌, ℕ, zero, suc, Option, None, Some, Float}
use Rattle.scalar.specs.F32.{at}
use Rattle.lines.specs.Text.{decimal_of, field_of, joined}
use Rattle.lines.specs.Ascii.{ascii}
use Rattle.svg.specs.declared.points.Place.{Place}
use Rattle.svg.specs.Points.{point_drawn_of}

-- a line is drawn on from the point before, and starts anew where there was none
unfoldable pub pen_text : Option Place → List ℕ
pen_text (Some p) = ascii "L"
pen_text None = ascii "M"

unfoldable pub pair_text : ℕ → ℕ → List ℕ
pair_text x y = decimal_of x ++ field_of y

-- of a point and the one before it; nothing of a point that is not drawn
unfoldable pub step_text : Option Place → Option Place → List ℕ
step_text before (Some p) = pen_text before ++ pair_text p.x p.y
step_text before None = []

-- row i's point, and the one before it
abbrev pub row_point : List Float → List Float → ℕ → Option Place
row_point f h i = point_drawn_of (at f i) (at h i)

unfoldable pub before_of : List Float → List Float → ℕ → Option Place
before_of f h zero = None
before_of f h (suc i) = row_point f h i

abbrev pub step_at : List Float → List Float → ℕ → List ℕ
step_at f h i = step_text (before_of f h i) (row_point f h i)

-- the line's data: thirty rows of frequency and height
unfoldable pub trace_text : List Float → List Float → List ℕ
trace_text f h = joined (step_at f h) 30
