-- The reads of a walk over heights that never fall are those of full scans: before each read the cursor stands at the count of the height before, which is not above that of its own height, and from there
-- a read is the scan's. So the cursor only rises, to 49 at most.
use mathlib.Core.Path.{◌≡◌, refl, sym, ap, ◌∙◌}
use mathlib.Core.List.{List}
use Prim.Native.Nat.{ℕ, zero, suc, ◌+◌, ◌≤◌, ◌<◌, zero-le}
use native.Mathlib.Nat.{le_trans, le_of_eq}
use native.Mathlib.Omega.{arith}
use lib.Dec.{T}
use lib.Ieee.{Float, binary32, fits}
use Rattle.readings.specs.Scan.{segment_number}
use Rattle.readings.specs.Cursor.{count_of}
use Rattle.readings.specs.declared.Read.{Read}
use Rattle.heights.specs.Walk.{EachF32, Rising, Orderly, cursor_before, walk_read, scanned_read, distance, DistanceRule, moves_of}
use Rattle.heights.proofs.walk.Cursor.{count-mono, count-bound}
use Rattle.heights.proofs.walk.OneRead.{read-is-scan, segment-counts}

-- `distance` is `gap` of rounding, said again: this rule and the edit `moves_on_only` are of what the moves here sum
pub distance-rule : DistanceRule
distance-rule a b = (λ h. omega arith, λ h. omega arith)

module _ (htr fnsq : List Float) (z : ℕ → Float) (n : ℕ) (held : EachF32 htr) (rising : Rising htr) (fine : (k : ℕ) → T (fits binary32 (z k))) (order : Orderly z n) where
  -- the cursor before a read is not above the count of its height
  below-count : (k : ℕ) → k < n → cursor_before htr fnsq z k ≤ count_of htr (z k)
  unfolding cursor_before
  below-count zero h = zero-le
  below-count (suc k) h =
      let k< : k < n = omega arith in
      le_trans (le_of_eq (ap (λ (r : Read). r.cursor) (read-is-scan htr fnsq (z k) (cursor_before htr fnsq z k) held (fine k) rising (below-count k k<))))
      (count-mono htr (z k) (z (suc k)) held (fine k) (fine (suc k)) (order k h))

  -- each read, kind, number, segment and cursor
  pub reads-are-scans : (k : ℕ) → k < n → walk_read htr fnsq z k ≡ scanned_read htr fnsq (z k)
  reads-are-scans k h = read-is-scan htr fnsq (z k) (cursor_before htr fnsq z k) held (fine k) rising (below-count k h)

  -- the segment of each reading is the count of its height, where the cursor is after it
  pub segment-after : (k : ℕ) → k < n → segment_number (walk_read htr fnsq z k).reading ≡ count_of htr (z k)
  segment-after k h = ap (λ (r : Read). segment_number r.reading) (reads-are-scans k h) ∙ segment-counts htr fnsq (z k) held (fine k) rising

  pub cursor-after : (k : ℕ) → k < n → cursor_before htr fnsq z (suc k) ≡ count_of htr (z k)
  unfolding cursor_before
  cursor-after k h = ap (λ (r : Read). r.cursor) (reads-are-scans k h)

  rises-so : (k : ℕ) → k < n → cursor_before htr fnsq z k ≤ cursor_before htr fnsq z (suc k)
  rises-so k h = le_trans (below-count k h) (le_of_eq (sym (cursor-after k h)))

  pub moves-are : (k : ℕ) → k ≤ n → moves_of htr fnsq z k ≡ cursor_before htr fnsq z k
  unfolding moves_of
  moves-are zero h = unfold cursor_before in refl
  moves-are (suc k) h =
      let k< : k < n = omega arith in
      ap (λ (m : ℕ). m + distance (cursor_before htr fnsq z k) (cursor_before htr fnsq z (suc k))) (moves-are k (omega arith)) ∙ (distance-rule _ _).0 (rises-so k k<)

  last-bound : (k : ℕ) → k ≤ n → cursor_before htr fnsq z k ≤ 49
  last-bound zero h = unfold cursor_before in zero-le
  last-bound (suc k) h = le_trans (le_of_eq (cursor-after k h)) (count-bound htr (z k) 49 0)

  pub moves-bound : (k : ℕ) → k ≤ n → moves_of htr fnsq z k ≤ 49
  moves-bound k h = le_trans (le_of_eq (moves-are k h)) (last-bound k h)
