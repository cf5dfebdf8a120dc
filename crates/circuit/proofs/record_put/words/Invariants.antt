-- After i turns the bytes of i words stand at the front.
use Prim.Native.Nat.{◌≤◌, ◌*◌}
use mathlib.Core.Path.{◌≡◌}
use mathlib.Core.List.{◌++◌}
use lib.ListN.{length, take, drop}
use Rattle.circuit.specs.Bytes.{bytes_of}
use Rattle.circuit.proofs.record_put.words.Given as goal

abbrev pub invariant-loop-i : goal.invariant-loop-i
invariant-loop-i l =
    (l.i ≤ length l.ws) × (length l.out ≡ length l.initial.out) × (l.out ≡ bytes_of (take l.i l.ws) ++ drop (4 * l.i) l.initial.out)
