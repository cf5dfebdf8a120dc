-- At most five points are taken: the second of the two tests.
use mathlib.Core.Bool.{true}
use mathlib.Core.Path.{◌≡◌}
use Prim.Native.Nat.{ℕ, ◌≤◌}
use lib.Dec.{leb}
use borrow.Author.Tests.{leb-true}
use Rattle.layers.specs.Rules.{count_taken}
use Rattle.std.proofs.lemmas.Bool.{and_parts}

pub taken-five : (n : ℕ) → count_taken n ≡ true → n ≤ 5
unfolding count_taken
taken-five n e = leb-true n 5 (and_parts (leb 1 n) (leb n 5) e).1
