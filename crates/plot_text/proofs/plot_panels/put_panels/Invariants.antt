-- After k turns the first k panels are put.
use Rattle.std.proofs.Common.{◌≡◌}
use Rattle.lines.specs.Text.{with_text, joined}
use Rattle.plot_text.specs.Panels.{panel_at}
use Rattle.plot_text.proofs.plot_panels.put_panels.Given as goal

abbrev pub invariant-loop-k : goal.invariant-loop-k
invariant-loop-k g l =
    let s = l.fn.p.sheet in
    l.page ≡ with_text g.row.N l.initial.page (joined (panel_at s.rows l.fn.p.profiles s.hour) l.k)
