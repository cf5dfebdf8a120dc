-- The text is too long, or it is read; what is said fits.
use mathlib.Core.Path.{sym, ◌∙◌}
use native.Mathlib.Omega.{arith}
use borrow.Author.Tests.{lt-ltb, le-ltb}
use Rattle.lines.proofs.Placing.{fits}
use Rattle.composing.specs.Composing.{long_text, composed_text}
use Rattle.composing.proofs.Answered.{good_said, file-room, wrong-room}
use Rattle.composing.proofs.composed_text.Goals as goal

pub returns-then-text-gt32768 : goal.returns-then-text-gt32768
unfolding long_text composed_text
returns-then-text-gt32768 c =
    rw (lt-ltb _ _ c.if-text-gt32768.true) (rw c.new-page.ensures at c.put_word.ensures ∙ fits _ _ (omega arith))

pub put_old-requires : goal.put_old-requires
put_old-requires c = (omega arith, good_said _ _ (sym c.compose.ensures ∙ c.in-Ok.is))

pub returns-in-Ok : goal.returns-in-Ok
unfolding composed_text
returns-in-Ok c =
    let e = sym c.compose.ensures ∙ c.in-Ok.is in
    rw (le-ltb _ _ c.if-text-gt32768.false, e) (rw c.new-page.ensures at c.put_old.ensures ∙ fits _ _ (omega (arith, (file-room _ _ e).most)))

pub returns-in-Err : goal.returns-in-Err
unfolding composed_text
returns-in-Err c =
    let e = sym c.compose.ensures ∙ c.in-Err.is in
    rw (le-ltb _ _ c.if-text-gt32768.false, e) (rw c.new-page.ensures at c.put_wrong.ensures ∙ fits _ _ (omega (arith, (wrong-room c.in-Err.wrong).most)))
