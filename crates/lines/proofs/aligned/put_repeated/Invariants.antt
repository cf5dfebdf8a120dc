-- After i turns i bytes are put.
use Rattle.std.proofs.Common.{◌≡◌, [], ◌∷◌}
use Rattle.lines.specs.Text.{with_text, joined}
use Rattle.lines.proofs.aligned.put_repeated.Given as goal

abbrev pub invariant-loop-i : goal.invariant-loop-i
invariant-loop-i g l = l.page ≡ with_text g.row.N l.initial.page (joined (λ j. l.b ∷ []) l._i)
