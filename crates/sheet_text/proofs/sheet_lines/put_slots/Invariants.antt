-- After k turns the first k slots are put.
use Rattle.std.proofs.Common.{◌≡◌}
use Rattle.lines.specs.Text.{with_text, joined}
use Rattle.sheet_text.specs.SheetLines.{slot_text_at}
use Rattle.sheet_text.proofs.sheet_lines.put_slots.Given as goal

abbrev pub invariant-loop-k : goal.invariant-loop-k
invariant-loop-k g l = l.page ≡ with_text g.row.N l.initial.page (joined (slot_text_at l.fn.s.rows) l.k)
