-- After each row it is the lowest of those so far.
use Rattle.std.proofs.Common.{◌≡◌}
use Rattle.nominal.specs.Nommuf.{esmuf_of}
use Rattle.nominal.proofs.lowest_es.Given as goal

abbrev pub invariant-loop-row : goal.invariant-loop-row
invariant-loop-row l = l.esmuf ≡ esmuf_of l.es l.gcd l.gcdkm l.row-index
