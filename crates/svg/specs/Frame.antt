-- What every picture begins with, as SVG: its size, the forms and colours, the frame with its axes, the circuit MUF and the legend. Units are tenths of a pixel, and the frame is that of Points, beside this file. The colours are those of Okabe and Ito, which colour-blind readers can tell apart; the forms and dashes differ too.
use Rattle.std.specs.Prelude.{List, ◌++◌, ℕ, ◌+◌, ◌*◌, Float}
use Rattle.lines.specs.Text.{decimal_of}
use Rattle.figures.specs.Figure.{figure_of}
use Rattle.figures.specs.FigureText.{figure_text}
use Rattle.lines.specs.Ascii.{ascii}
use Rattle.svg.specs.Axes.{axes_text}
use Rattle.svg.specs.Legend.{shapes_text, lines_text}

-- 700 pixels wide: 80 down for the head, and 400 for each panel
unfoldable pub size_text : ℕ → List ℕ
size_text slots =
    let height = 80 + 400 * slots in
    ascii "<svg xmlns='http://www.w3.org/2000/svg' width='700' height='" ++ (decimal_of height ++ (ascii "' viewBox='0 0 7000 " ++ (decimal_of height ++ ascii "0'>\n")))

unfoldable pub style_text : List ℕ
style_text =
    ascii "<title>Profile and ionogram of a circuit's slots</title>\n"
    ++ (ascii "<style>text{font:130px sans-serif}.b{font-weight:bold}.n{font-size:110px}.m{text-anchor:middle}.e{text-anchor:end}"
    ++ (ascii "path{stroke-linejoin:round}.frame,.grid,.true,.virtual,.muf{fill:none;stroke:#000}.frame{stroke-width:10}"
    ++ (ascii ".grid{stroke:#ccc;stroke-width:5}.true{stroke-width:15;marker:url(#dot)}"
    ++ (ascii ".virtual{stroke:#d55e00;stroke-width:15;stroke-dasharray:50 30;marker:url(#cross)}"
    ++ (ascii ".muf{stroke-width:15;stroke-dasharray:100 40 15 40}</style>\n"
    ++ ascii "<rect width='7000' height='100%' fill='#fff'/>\n")))))

-- what stands at each row of an ionogram: a dot on the line of true heights, a cross on that of virtual ones
unfoldable pub dots_text : List ℕ
dots_text =
    ascii "<marker id='dot' markerUnits='userSpaceOnUse' markerWidth='60' markerHeight='60' viewBox='-30 -30 60 60'><circle r='15'/></marker>\n"
    ++ (ascii "<marker id='cross' markerUnits='userSpaceOnUse' markerWidth='60' markerHeight='60' viewBox='-30 -30 60 60'>"
    ++ ascii "<path d='M-20 -20l40 40m0 -40l-40 40' stroke='#d55e00' stroke-width='12'/></marker>\n")

-- the form of each mark, by its `id_of`
unfoldable pub forms_text : List ℕ
forms_text =
    ascii "<path id='none' d='M-24 -24l48 48m0 -48l-48 48' stroke='#000' stroke-width='10'/>\n"
    ++ (ascii "<path id='tail' d='M0 -34l32 58h-64z' fill='#e69f00'/>\n"
    ++ (ascii "<path id='E' d='M-26 -26h52v52h-52z' fill='#009e73'/>\n"
    ++ (ascii "<path id='valley' d='M0 -36l36 36l-36 36l-36 -36z' fill='#56b4e9'/>\n"
    ++ (ascii "<path id='F1' d='M0 34l32 -58h-64z' fill='#cc79a7'/>\n"
    ++ (ascii "<circle id='F2' r='28' fill='#0072b2'/>\n"
    ++ ascii "<circle id='gap' r='24' fill='#fff' stroke='#000' stroke-width='10'/>\n")))))

unfoldable pub call_text : Float → List ℕ
call_text muf =
    ascii "<text class='b' x='300' y='240'>Circuit MUF " ++ (figure_text (figure_of muf) ++ (ascii " MHz</text>\n" ++ ascii "<text class='n e' x='6400' y='240'>Not drawn: what is outside a frame, below zero or not a number.</text>\n"))

unfoldable pub defined_text : List ℕ
defined_text = ascii "<defs>\n" ++ (dots_text ++ (forms_text ++ (axes_text ++ ascii "</defs>\n")))

-- of a circuit with so many slots and this MUF
unfoldable pub head_text : ℕ → Float → List ℕ
head_text slots muf = size_text slots ++ (style_text ++ (defined_text ++ (call_text muf ++ (shapes_text ++ lines_text))))
