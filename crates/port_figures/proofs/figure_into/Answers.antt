-- The text has five bytes.
use mathlib.Core.Path.{◌≡◌, refl}
use mathlib.Core.List.{List, [], ◌++◌}
use Prim.Native.Nat.{ℕ, ◌+◌, ◌≤◌}
use native.Mathlib.Omega.{arith}
use lib.Ieee.{Float}
use lib.ListN.{length, drop}
use borrow.Author.Tests.{le-ltb}
use Rattle.std.proofs.lemmas.List.{length-take-le}
use Rattle.std.proofs.lemmas.List.Edits.{sets, sets-eq}
use Rattle.lines.specs.Text.{with_text}
use Rattle.lines.proofs.Placing.{fits}
use Rattle.figures.specs.Figure.{figure_of}
use Rattle.figures.specs.FigureText.{figure_text}
use Rattle.figures.proofs.figure_text.Widths.{figure-five}
use Rattle.port_figures.specs.Exports.{figure_answer, figure_left}
use Rattle.port_figures.proofs.figure_into.Goals as goal

printed : (v : Float) {new page text : List ℕ} → new ≡ [] → page ≡ with_text 5 new (figure_text (figure_of v)) → text ≡ page → text ≡ figure_text (figure_of v)
printed v e p q = rw (q, p, e) (fits 5 (figure_text (figure_of v)) (omega (arith, figure-five v)))

at_start : (text out : List ℕ) → length text ≡ 5 → 5 ≤ length out → text ++ drop 5 out ≡ sets out 0 text
at_start text out e h = let z : 0 + length text ≡ 5 = omega arith in rw (sets-eq text out 0 (omega arith), z) refl

pub copy_from_slice-requires : goal.copy_from_slice-requires
copy_from_slice-requires c =
    rw (printed c.number-v.result c.new-page.ensures c.put_figure.ensures c.text.ensures) (omega (arith, length-take-le 5 c.args.out.now c.if-out-lt5.false, figure-five c.number-v.result))

pub returns : goal.returns
unfolding figure_answer figure_left
returns c =
    let e = printed c.number-v.result c.new-page.ensures c.put_figure.ensures c.text.ensures in
    rw (le-ltb _ _ c.if-out-lt5.false, ← c.number-v.ensures, c.copy_from_slice.ensures.after, e)
    (refl, at_start _ _ (figure-five c.number-v.result) c.if-out-lt5.false)
