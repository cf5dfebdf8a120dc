-- After k turns the first k slots are put.
use Rattle.std.proofs.Common.{◌≡◌}
use Rattle.lines.specs.Text.{with_text, joined}
use Rattle.show_text.specs.Page.{slot_page_at}
use Rattle.show_text.proofs.show_page.put_slots.Given as goal

abbrev pub invariant-loop-k : goal.invariant-loop-k
invariant-loop-k g l = l.page ≡ with_text g.row.N l.initial.page (joined (slot_page_at l.s.rows) l.k)
