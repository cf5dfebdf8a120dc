-- What every picture begins with has at most 4,459 bytes; a number is given twenty digits, whatever it is.
use mathlib.Core.Path.{refl}
use Prim.Native.Nat.{ℕ, ◌+◌, ◌*◌}
use lib.Ieee.{Float}
use Rattle.lines.proofs.Sizes.{AtMost, ◌then◌, word, decimal}
use Rattle.lines.specs.Ascii.{ascii}
use Rattle.svg.proofs.trace.Lengths.{counted}
use Rattle.figures.proofs.figure_text.Widths.{figure-most}
use Rattle.svg.proofs.axes.Lengths.{axes}
use Rattle.svg.proofs.legend.Lengths.{shapes, lines}
use Rattle.svg.specs.Frame.{size_text, style_text, dots_text, forms_text, call_text, defined_text, head_text}

size : (slots : ℕ) → AtMost (size_text slots) 124
unfolding size_text
size slots =
    let height = decimal (80 + 400 * slots) in
    word (ascii "<svg xmlns='http://www.w3.org/2000/svg' width='700' height='") then height then word (ascii "' viewBox='0 0 7000 ") then height then word (ascii "0'>\n")

style : AtMost style_text 537
unfolding style_text
style = counted style_text 537 refl

dots : AtMost dots_text 322
unfolding dots_text
dots = counted dots_text 322 refl

forms : AtMost forms_text 422
unfolding forms_text
forms = counted forms_text 422 refl

call : (muf : Float) → AtMost (call_text muf) 167
unfolding call_text
call muf =
    word (ascii "<text class='b' x='300' y='240'>Circuit MUF ") then figure-most muf then word (ascii " MHz</text>\n") then word (ascii "<text class='n e' x='6400' y='240'>Not drawn: what is outside a frame, below zero or not a number.</text>\n")

defined : AtMost defined_text 2877
unfolding defined_text
defined = word (ascii "<defs>\n") then dots then forms then axes then word (ascii "</defs>\n")

pub head : (slots : ℕ) (muf : Float) → AtMost (head_text slots muf) 4459
unfolding head_text
head slots muf = size slots then style then defined then call muf then shapes then lines
