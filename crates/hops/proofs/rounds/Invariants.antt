-- What is left to do from the present round, with the rounds that are left, is what was to be done at the start. The round that stops is the last of those.
use mathlib.Core.Path.{◌≡◌}
use Prim.Native.Nat.{◌<◌, ◌-◌}
use Rattle.hops.specs.Rounds.{rounds_of}
use Rattle.hops.proofs.rounds.Given as goal

abbrev pub invariant-loop-p : goal.invariant-loop-p
invariant-loop-p l = (l.ntry < 5) × (rounds_of l.p (5 - l.ntry) l.t ≡ rounds_of l.p 5 l.initial.t)

abbrev pub decreases-loop-p : goal.decreases-loop-p
decreases-loop-p l = 5 - l.ntry
