-- The line up to a `#`.
use Rattle.std.proofs.Common.{rules}
use Rattle.std.specs.Prelude.{Err}
use mathlib.Core.Path.{◌≡◌, sym, ap, ◌∙◌}
use Rattle.composing.specs.Words.{words_of, up_to}
use Rattle.composing.proofs.compose_line.Then.{then-ok, then-err}
use Rattle.composing.proofs.compose_line.read_line.Goals.{After-all_words}
use lib.Seq.{length-take-le}
use Rattle.composing.specs.Row.{blank_row, with_words, ended_row, row_of}
use Prim.Native.Nat.{ℕ}
use lib.ListN.{take}
use Rattle.composing.proofs.compose_line.read_line.Goals as goal

pub slice_bounds-all_words-end : goal.slice_bounds-all_words-end
slice_bounds-all_words-end c = sym (length-take-le _ _ c.until-e.ensures.0)

words : (c : After-all_words) → c.all_words.result ≡ with_words blank_row (words_of (up_to 35 c.args.line.now))
words c = c.all_words.ensures ∙ ap (with_words blank_row) (ap (λ (e : ℕ). words_of (take e c.args.line.now)) c.until-e.ensures.1)

pub returns-in_err-all_words : goal.returns-in_err-all_words
unfolding row_of
returns-in_err-all_words c =
    let e : c.from_residual.result ≡ Err c.in_err-all_words.field-0.0 = search rules in
    e ∙ then-err ended_row (words (goal.at.returns-in_err-all_words c).After-all_words) c.in_err-all_words.was

pub returns : goal.returns
unfolding row_of
returns c = c.ended.ensures ∙ then-ok ended_row (words (goal.at.returns c).After-all_words) c.in_ok-all_words.was
