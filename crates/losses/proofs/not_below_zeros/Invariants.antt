-- After so many turns so many factors are not below zero.
use mathlib.Core.Path.{◌≡◌}
use Rattle.losses.specs.Alosfv.{not_below_zeros}
use Rattle.losses.proofs.not_below_zeros.Given as goal

abbrev pub invariant-loop-a : goal.invariant-loop-a
invariant-loop-a l = l.a-items ≡ not_below_zeros l.initial.a-items l.a-index
