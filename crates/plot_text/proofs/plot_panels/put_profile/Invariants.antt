-- The marks of so many heights are put.
use Rattle.std.proofs.Common.{◌≡◌, length}
use Rattle.lines.specs.Text.{with_text, joined}
use Rattle.plot_text.specs.Panels.{height_text_at}
use Rattle.plot_text.proofs.plot_panels.put_profile.Given as goal

abbrev pub invariant-loop-mark : goal.invariant-loop-mark
invariant-loop-mark g l = l.page ≡ with_text g.row.N l.initial.page (joined (height_text_at l.fn.p l.fn.marks) (length l.yielded))
