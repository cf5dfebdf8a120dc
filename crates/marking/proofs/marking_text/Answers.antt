-- The line fits.
use mathlib.Core.Path.{◌∙◌}
use native.Mathlib.Omega.{arith}
use Rattle.lines.proofs.Placing.{fits}
use Rattle.marking.proofs.marking_answer.Length.{marking-most}
use Rattle.marking.specs.Marked.{marked_text}
use Rattle.marking.proofs.marking_text.Goals as goal

pub returns : goal.returns
unfolding marked_text
returns c =
    rw (← c.mark.ensures) (rw c.new-page.ensures at c.put_marking.ensures ∙ fits _ _ (omega (arith, (marking-most c.mark.result).most)))
