-- Walk against scan, by bits: what is the same of readings and of heights, a zero's sign included, and what is claimed of the walk in that sense.
use Rattle.std.specs.Prelude.{◌≡◌, List, ℕ, ◌<◌, T, Float}
use Rattle.std.specs.Float.{binary32}
use Rattle.std.specs.Float.Ieee.{fits}
use Rattle.scalar.specs.F32.{at}
use Rattle.same.specs.Same.{Same}
use Rattle.layers.specs.declared.IonoState.{IonoState}
use Rattle.profile.specs.Rising.{rises_of}
use Rattle.readings.specs.Scan.{reading_kind, value_of, segment_number, reading_of}
use Rattle.readings.specs.declared.Reading.{Reading}
use Rattle.heights.specs.Walk.{EachF32}
use Rattle.heights.specs.Nodes.{height_at}
use Rattle.heights.specs.ReadsByWalk.{read_at}
use Rattle.heights.specs.Gethp.{gethp_of, gethp_scan_of}
use Rattle.heights.specs.GethpWalk.{gethp_walk_of}
use Rattle.heights.specs.Reads.{difference_of, read_height}
use Rattle.heights.specs.declared.Heights.{Heights}

-- the same kind, the same number and the same segment
abbrev pub SameReading : Reading → Reading → Type 0
SameReading r t = (reading_kind r ≡ reading_kind t) × Same (value_of r) (value_of t) × (segment_number r ≡ segment_number t)

-- the same two heights and the same segment; the cursor is not asked about, since scans have none
abbrev pub SameHeights : Heights → Heights → Type 0
SameHeights h g = Same h.hp g.hp × Same h.ht g.ht × (h.segment ≡ g.segment)

-- the forty reads of one frequency
abbrev pub SameReads : IonoState → Float → Type 0
SameReads s fxx = (k : ℕ) → k < 40 → SameReading (read_at s.htr s.fnsq (difference_of s fxx) k).reading (reading_of s.htr s.fnsq (read_height s fxx k))

pub record WalkSameAsScan : Type 0 where
  -- each of the forty readings of the walk is the scan's, where the heights pass the rising test
  pub reads_same : (s : IonoState) (fxx : Float) → EachF32 s.htr → T (rises_of s.htr) → SameReads s fxx
  -- also at a difference of any other making
  pub reads-same-at : (htr fnsq : List Float) (ht : Float) → EachF32 htr → T (rises_of htr) → T (fits binary32 ht) → (k : ℕ) → k < 40 → SameReading (read_at htr fnsq ht k).reading (reading_of htr fnsq (height_at (at htr 0) ht k))
  -- so the heights that the code finds are those of the contract, and those of forty scans on every profile
  pub walked_same : (s : IonoState) (fxx : Float) → EachF32 s.htr → SameHeights (gethp_walk_of s fxx) (gethp_of s fxx)
  pub scanned-same : (s : IonoState) (fxx : Float) → SameHeights (gethp_scan_of s fxx) (gethp_of s fxx)
