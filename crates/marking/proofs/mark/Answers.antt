-- The two tests of length, then the parts of the input.
use Prim.Native.Nat.{ℕ, ◌+◌}
use mathlib.Core.Path.{ap, ◌∙◌}
use native.Mathlib.Omega.{arith}
use borrow.Author.Tests.{le-leb, lt-leb}
use lib.ListN.{length, take, drop}
use Rattle.records.specs.Record.{word_at}
use Rattle.marking.specs.Marked.{length_filled, sheet_marked, marked_of}
use Rattle.marking.proofs.Parts.{parts}
use Rattle.marking.proofs.mark.Goals as goal

pub returns-then-input-lt4 : goal.returns-then-input-lt4
unfolding marked_of length_filled
returns-then-input-lt4 c = rw (lt-leb 4 _ c.if-input-lt4.true)

pub returns-then-input-n : goal.returns-then-input-n
unfolding marked_of length_filled
returns-then-input-n c =
    let input = c.args.input.now in
    rw (le-leb 4 _ c.if-input-lt4.false, lt-leb (4 + word_at input 0) (length input) (omega (arith, c.word-n.ensures)))

pub returns : goal.returns
unfolding marked_of length_filled
returns c =
    let w = c.word-n in
    let input = c.args.input.now in
    rw (le-leb 4 _ c.if-input-lt4.false, le-leb (4 + word_at input 0) (length input) (omega (arith, w.ensures)))
    (c.mark_sheet.ensures
    ∙ parts w.result input
    ∙ ap (λ (n : ℕ). sheet_marked (take n (drop 4 input)) (drop (4 + n) input)) w.ensures)
