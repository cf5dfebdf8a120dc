-- The runs of the heights so far are put.
use Rattle.std.proofs.Common.{◌≡◌}
use Rattle.lines.specs.Text.{with_text, joined}
use Rattle.show_text.specs.RunText.{run_text}
use Rattle.show_text.proofs.run_text.put_runs.Given as goal

abbrev pub invariant-loop-i : goal.invariant-loop-i
invariant-loop-i g l = l.page ≡ with_text g.row.N l.initial.page (joined (run_text l.marks) l.i)
