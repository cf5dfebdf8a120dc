-- The records met stand at the front of the array, and the walk from here on is the walk from record 0.
use Prim.Native.Nat.{◌≤◌, ◌+◌, ◌*◌}
use mathlib.Core.Path.{◌≡◌}
use mathlib.Core.List.{[], ◌∷◌}
use lib.ListN.{length, take}
use Rattle.records.specs.Chain as chain
use Rattle.records.proofs.record_chain.File.walk.Given as goal

abbrev pub invariant-loop-next : goal.invariant-loop-next
invariant-loop-next l =
    (1 ≤ l.count) × (l.count + l.left ≡ l.km + 49) × (l.self.form.size * l.at + l.self.form.size ≤ length l.self.bytes.now) × (length l.order ≡ 64)
    × (l.order ≡ chain.padded 64 (take l.count l.order))
    × (chain.walk l.self.form l.self.bytes.now l.left (take l.count l.order) l.at ≡ chain.walk l.self.form l.self.bytes.now (l.km + 48) (0 ∷ []) 0)

abbrev pub decreases-loop-next : goal.decreases-loop-next
decreases-loop-next l = l.left
