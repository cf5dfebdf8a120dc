-- The size decides; then the verdict on the two texts.
use borrow.Author.Tests.{lt-ltb, le-ltb}
use Rattle.marking.specs.Answer.{sized_of, text_marked}
use Rattle.marking.proofs.marking_answer.marked.Goals as goal

pub returns-then-theirs-gt-SHEET : goal.returns-then-theirs-gt-SHEET
unfolding text_marked sized_of
returns-then-theirs-gt-SHEET c = rw (lt-ltb _ _ c.if-theirs-gt-SHEET.true)

pub returns : goal.returns
unfolding text_marked sized_of
returns c = rw (le-ltb _ _ c.if-theirs-gt-SHEET.false, c.verdict.ensures)
