-- The words from the next on, added to `row`, are the words of the line added to a blank row.
use mathlib.Core.Path.{◌≡◌}
use lib.ListN.{length, drop}
use Rattle.composing.specs.Words.{words_of}
use Rattle.composing.specs.Row.{blank_row, with_words}
use Rattle.composing.proofs.compose_line.all_words.Given as goal

abbrev pub invariant-loop-w : goal.invariant-loop-w
invariant-loop-w l = with_words l.row (drop (length l.yielded) (words_of l.line)) ≡ with_words blank_row (words_of l.line)
