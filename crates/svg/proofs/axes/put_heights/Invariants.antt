-- After i turns the first i lines are put.
use Rattle.std.proofs.Common.{◌≡◌}
use Rattle.lines.specs.Text.{with_text, joined}
use Rattle.svg.specs.Axes.{up_at}
use Rattle.svg.proofs.axes.put_heights.Given as goal

abbrev pub invariant-loop-i : goal.invariant-loop-i
invariant-loop-i g l = l.page ≡ with_text g.row.N l.initial.page (joined up_at l.i)
