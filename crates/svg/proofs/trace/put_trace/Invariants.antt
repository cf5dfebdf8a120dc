-- After so many rows these are put, and the last point is that of the row before.
use Rattle.std.proofs.Common.{◌≡◌, length}
use Rattle.lines.specs.Text.{with_text, joined}
use Rattle.svg.specs.Trace.{step_at, before_of}
use Rattle.svg.proofs.trace.put_trace.Given as goal

abbrev pub invariant-loop-f : goal.invariant-loop-f
invariant-loop-f g l =
    let i = length l.yielded in
    (l.last ≡ before_of l.fn.f l.fn.h i) × (l.page ≡ with_text g.row.N l.initial.page (joined (step_at l.fn.f l.fn.h) i))
