-- After each point it is the lowest of those so far.
use Rattle.std.proofs.Common.{◌≡◌, length}
use Rattle.nominal.specs.Nommuf.{f2muf_of}
use Rattle.nominal.proofs.lowest_f2.Given as goal

abbrev pub invariant-loop-p : goal.invariant-loop-p
invariant-loop-p l = l.f2muf ≡ f2muf_of l.fn.points l.fn.f2m3 l.flfc (length l.yielded)
