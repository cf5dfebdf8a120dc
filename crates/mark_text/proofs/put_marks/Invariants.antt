-- After i turns the first i lines are put.
use Rattle.std.proofs.Common.{◌≡◌}
use Rattle.lines.specs.Text.{with_text, joined}
use Rattle.mark_text.specs.MarkText.{mark_line_at}
use Rattle.mark_text.proofs.put_marks.Given as goal

abbrev pub invariant-loop-i : goal.invariant-loop-i
invariant-loop-i g l = l.page ≡ with_text g.row.N l.initial.page (joined (mark_line_at l.marks) l.i)
