-- How long the pieces of a panel are at most; a number is given twenty digits, whatever it is.
use mathlib.Core.Path.{refl}
use Prim.Native.Nat.{ℕ}
use native.Mathlib.Omega.{arith}
use lib.Ieee.{Float}
use Rattle.std.specs.Prelude.{Option, None, Some}
use Rattle.scalar.specs.Literals.{f0}
use Rattle.lines.proofs.Sizes.{AtMost, ◌then◌, word, decimal}
use Rattle.figures.proofs.figure_text.Widths.{figure-most}
use Rattle.profile.specs.declared.shapes.Mark.{Mark}
use Rattle.svg.specs.declared.points.Place.{Place}
use Rattle.lines.specs.Ascii.{ascii}
use Rattle.svg.specs.Points.{point_drawn_of}
use Rattle.svg.specs.Pieces.{id_of, use_text, mark_by, mark_text, line_text, muf_by, muf_text}
use Rattle.svg.proofs.trace.Lengths.{counted, none}

id : (m : Mark) → AtMost (id_of m) 6
unfolding id_of
id Mark.None = counted _ 6 refl
id Mark.Tail = counted _ 6 refl
id Mark.E = counted _ 6 refl
id Mark.Valley = counted _ 6 refl
id Mark.F1 = counted _ 6 refl
id Mark.F2 = counted _ 6 refl
id Mark.Gap = counted _ 6 refl

used : (m : Mark) (x y : ℕ) → AtMost (use_text m x y) 72
unfolding use_text
used m x y =
    word (ascii "<use href='#") then id m then word (ascii "' x='") then decimal x then word (ascii "' y='") then decimal y then word (ascii "'/>\n")

mark-by : (d : Option Place) (m : Mark) → AtMost (mark_by d m) 72
mark-by (Some p) m = used m p.x p.y
mark-by None m = none 72

pub mark : (m : Mark) (f h : Float) → AtMost (mark_text m f h) 72
unfolding mark_text
mark m f h = mark-by (point_drawn_of f h) m

line : (x : ℕ) (muf : Float) → AtMost (line_text x muf) 124
unfolding line_text
line x muf =
    word (ascii "<path class='muf' d='M") then decimal x then word (ascii " 500V3500'/><text class='m' x='") then decimal x then word (ascii "' y='440'>MUF ") then figure-most muf then word (ascii " MHz</text>\n")

muf-by : (d : Option Place) (muf : Float) → AtMost (muf_by d muf) 124
muf-by (Some p) muf = line p.x muf
muf-by None muf = none 124

pub muf-line : (muf : Float) → AtMost (muf_text muf) 124
unfolding muf_text
muf-line muf = muf-by (point_drawn_of muf f0) muf
