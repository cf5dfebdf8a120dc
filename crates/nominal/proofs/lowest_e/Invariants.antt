-- After each point it is the lowest of those so far.
use Rattle.std.proofs.Common.{◌≡◌}
use Rattle.nominal.specs.Nommuf.{ec_of}
use Rattle.nominal.proofs.lowest_e.Given as goal

abbrev pub invariant-loop-p : goal.invariant-loop-p
invariant-loop-p l = l.ec ≡ ec_of l.points l.p-index
