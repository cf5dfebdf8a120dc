-- After k turns the first k lines stand.
use mathlib.Core.Path.{◌≡◌}
use Rattle.port_muf.proofs.hour_words.Lines.{lines_into}
use Rattle.port_muf.proofs.hour_words.hour_into.Given as goal

abbrev pub invariant-loop-k : goal.invariant-loop-k
invariant-loop-k l = l.out ≡ lines_into l.fn.h.layers l.k l.initial.out
