-- What the number of a segment says: a scan answers the first segment that holds the probe, by the number of its lower node, and the top only where none does.
use Rattle.std.specs.Prelude.{List, ◌≡◌, ℕ, ◌+◌, ◌<◌, Float, Option, Some, None}
use Rattle.scalar.specs.F32.{at}
use Rattle.readings.specs.Scan.{segment_of}
use Rattle.readings.specs.declared.Reading.{Reading}
use Rattle.readings.specs.declared.Reading.TheVariants.{Floor, Segment, Top}

-- segment n, between the nodes n and n + 1
abbrev pub segment_at : List Float → List Float → Float → ℕ → Option Float
segment_at from to probe n = segment_of (at from n) (at from (n + 1)) (at to n) (at to (n + 1)) probe

-- of a scan's reading, which is never the floor
abbrev pub FirstHeld : List Float → List Float → Float → Reading → Type 0
FirstHeld from to probe (Floor v) = ⊥
FirstHeld from to probe (Segment v n) = (n < 49) × (segment_at from to probe n ≡ Some v) × ((j : ℕ) → j < n → segment_at from to probe j ≡ None)
FirstHeld from to probe (Top v) = (v ≡ at to 49) × ((j : ℕ) → j < 49 → segment_at from to probe j ≡ None)
