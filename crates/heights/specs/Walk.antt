-- A walk: reads of the heights z 0, z 1 .. in turn, each on from the cursor that the one before left, the first from 0.
use Rattle.std.specs.Prelude.{◌||◌, List, ◌≡◌, ℕ, zero, suc, ◌+◌, ◌-◌, ◌<◌, ◌≤◌, T, Float}
use Rattle.std.specs.Float.{binary32}
use Rattle.std.specs.Float.Ieee.{fits, is_nan}
use Rattle.scalar.specs.F32.{◌<f◌, ◌≤f◌, at}
use Rattle.readings.specs.Scan.{reading_of}
use Rattle.readings.specs.Cursor.{count_of, read_on_of}
use Rattle.readings.specs.declared.Read.{Read}

-- every number of the list is an f32
abbrev pub EachF32 : List Float → Type 0
EachF32 l = (i : ℕ) → T (fits binary32 (at l i))

-- what the rising test says
abbrev pub Rising : List Float → Type 0
Rising htr = (i : ℕ) → i < 49 → T (at htr i <f at htr (i + 1))

-- each of the first n heights is at or above the one before it, which may be a NaN
abbrev pub Orderly : (ℕ → Float) → ℕ → Type 0
Orderly z n = (k : ℕ) → suc k < n → T (is_nan (z k) || (z k ≤f z (suc k)))

-- the cursor before read k
unfoldable pub cursor_before : List Float → List Float → (ℕ → Float) → ℕ → ℕ
cursor_before htr fnsq z zero = 0
cursor_before htr fnsq z (suc k) = (read_on_of htr fnsq (z k) (cursor_before htr fnsq z k)).cursor

-- read k: the reading, and the cursor after it
abbrev pub walk_read : List Float → List Float → (ℕ → Float) → ℕ → Read
walk_read htr fnsq z k = read_on_of htr fnsq (z k) (cursor_before htr fnsq z k)

-- the reading of a full scan, with the paper's count for the cursor
abbrev pub scanned_read : List Float → List Float → Float → Read
scanned_read htr fnsq zi = record { reading = reading_of htr fnsq zi; cursor = count_of htr zi }

-- the cursor's moves over the first n reads: the sum of its distances from before to after
abbrev pub distance : ℕ → ℕ → ℕ
distance a b = (a - b) + (b - a)

-- what `distance-rule` says: the lesser and the distance are the greater, both ways; so a move back counts as a move on does
abbrev pub DistanceRule : Type 0
DistanceRule = (a b : ℕ) → (a ≤ b → a + distance a b ≡ b) × (b ≤ a → b + distance a b ≡ a)

unfoldable pub moves_of : List Float → List Float → (ℕ → Float) → ℕ → ℕ
moves_of htr fnsq z zero = 0
moves_of htr fnsq z (suc n) = moves_of htr fnsq z n + distance (cursor_before htr fnsq z n) (cursor_before htr fnsq z (suc n))
