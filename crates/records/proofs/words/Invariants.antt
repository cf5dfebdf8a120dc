-- After i turns the first i words are those of the record after its first `skip`, and the rest is as it was lent.
use Prim.Native.Nat.{◌≤◌, ◌+◌}
use mathlib.Core.Path.{◌≡◌}
use mathlib.Core.List.{◌++◌}
use lib.ListN.{length, drop}
use Rattle.records.specs.Record.{record_words}
use Rattle.records.proofs.words.Given as goal

abbrev pub invariant-loop-i : goal.invariant-loop-i
invariant-loop-i l =
    (l.i ≤ length l.initial.out) × (length l.out ≡ length l.initial.out) × (l.out ≡ drop l.skip (record_words l.r (l.skip + l.i)) ++ drop l.i l.initial.out)
