-- The marks of a profile's heights and the MUF's line, as SVG.
use Rattle.std.specs.Prelude.{List, [], ◌++◌, ℕ, Option, None, Some, Float}
use Rattle.scalar.specs.Literals.{f0}
use Rattle.lines.specs.Text.{decimal_of}
use Rattle.figures.specs.Figure.{figure_of}
use Rattle.figures.specs.FigureText.{figure_text}
use Rattle.profile.specs.declared.shapes.Mark.{Mark}
use Rattle.lines.specs.Ascii.{ascii}
use Rattle.svg.specs.declared.points.Place.{Place}
use Rattle.svg.specs.Points.{point_drawn_of}

-- the form of each mark, as it is named in the picture
unfoldable pub id_of : Mark → List ℕ
id_of Mark.None = ascii "none"
id_of Mark.Tail = ascii "tail"
id_of Mark.E = ascii "E"
id_of Mark.Valley = ascii "valley"
id_of Mark.F1 = ascii "F1"
id_of Mark.F2 = ascii "F2"
id_of Mark.Gap = ascii "gap"

unfoldable pub use_text : Mark → ℕ → ℕ → List ℕ
use_text m x y =
    ascii "<use href='#" ++ (id_of m ++ (ascii "' x='" ++ (decimal_of x ++ (ascii "' y='" ++ (decimal_of y ++ ascii "'/>\n")))))

abbrev pub mark_by : Option Place → Mark → List ℕ
mark_by (Some p) m = use_text m p.x p.y
mark_by None m = []

-- the mark of a height, at its plasma frequency
unfoldable pub mark_text : Mark → Float → Float → List ℕ
mark_text m f h = mark_by (point_drawn_of f h) m

unfoldable pub line_text : ℕ → Float → List ℕ
line_text x muf =
    ascii "<path class='muf' d='M" ++ (decimal_of x ++ (ascii " 500V3500'/><text class='m' x='" ++ (decimal_of x ++ (ascii "' y='440'>MUF " ++ (figure_text (figure_of muf) ++ ascii " MHz</text>\n")))))

abbrev pub muf_by : Option Place → Float → List ℕ
muf_by (Some p) muf = line_text p.x muf
muf_by None muf = []

-- over the frequency axis, from the height 0 up
unfoldable pub muf_text : Float → List ℕ
muf_text muf = muf_by (point_drawn_of muf f0) muf
