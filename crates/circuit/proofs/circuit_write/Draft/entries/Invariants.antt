-- After i turns the first i records stand at the front.
use Prim.Native.Nat.{◌≤◌, ◌*◌}
use mathlib.Core.Path.{◌≡◌}
use mathlib.Core.List.{◌++◌}
use lib.ListN.{length, drop}
use Rattle.circuit.specs.Written.{entries_of}
use Rattle.circuit.proofs.circuit_write.Draft.entries.Given as goal

abbrev pub invariant-loop-i : goal.invariant-loop-i
invariant-loop-i l =
    (l.i ≤ l.self.count) × (length l.out ≡ length l.initial.out)
    × (l.out ≡ entries_of l.self.form l.self.circuit.now l.self.beside.now l.self.count l.i ++ drop (l.self.form.size * l.i) l.initial.out)
