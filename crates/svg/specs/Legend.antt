-- The legend of the picture, as SVG: the shapes of a profile by their forms, and the lines. Units are tenths of a pixel.
use Rattle.std.specs.Prelude.{List, ◌++◌, ℕ}
use Rattle.lines.specs.Ascii.{ascii}

unfoldable pub shapes_text : List ℕ
shapes_text =
    ascii "<text x='300' y='480'>Profile:</text>\n"
    ++ (ascii "<use href='#tail' x='1060' y='440'/><text x='1130' y='480'>D-E tail</text>\n"
    ++ (ascii "<use href='#E' x='1860' y='440'/><text x='1930' y='480'>E parabola</text>\n"
    ++ (ascii "<use href='#valley' x='2820' y='440'/><text x='2890' y='480'>valley line</text>\n"
    ++ (ascii "<use href='#F1' x='3780' y='440'/><text x='3850' y='480'>F1</text>\n"
    ++ (ascii "<use href='#F2' x='4220' y='440'/><text x='4290' y='480'>F2</text>\n"
    ++ ascii "<use href='#gap' x='4660' y='440'/><text x='4730' y='480'>gap</text>\n")))))

unfoldable pub lines_text : List ℕ
lines_text =
    ascii "<text x='300' y='700'>Ionogram:</text>\n"
    ++ (ascii "<path class='true' d='M1060 660h260'/><text x='1390' y='700'>true height</text>\n"
    ++ (ascii "<path class='virtual' d='M2340 660h260'/><text x='2670' y='700'>virtual height</text>\n"
    ++ ascii "<path class='muf' d='M3780 660h260'/><text x='4110' y='700'>circuit MUF</text>\n"))
