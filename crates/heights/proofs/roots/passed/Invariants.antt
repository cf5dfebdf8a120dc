-- At most two tests for each place are passed; where all are, every guess is right. Assumes nothing.
use mathlib.Core.Path.{◌≡◌}
use Prim.Native.Nat.{◌≤◌, ◌*◌}
use lib.ListN.{length}
use Rattle.heights.specs.Guess.{AllRight}
use Rattle.heights.proofs.roots.passed.Given as goal

abbrev pub invariant-loop-b : goal.invariant-loop-b
invariant-loop-b l = let k = length l.yielded in (l.n ≤ 2 * k) × (l.n ≡ 2 * k → AllRight l.fn.b l.fn.g k)
