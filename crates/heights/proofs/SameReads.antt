-- The equations of the walk, read by bits.
use mathlib.Core.Path.{◌≡◌, ap}
use mathlib.Core.List.{List}
use Prim.Native.Nat.{ℕ, ◌<◌}
use lib.Dec.{T}
use lib.Ieee.{Float, binary32, fits}
use Rattle.scalar.specs.F32.{at}
use Rattle.same.proofs.Same.{equal-same}
use Rattle.layers.specs.declared.IonoState.{IonoState}
use Rattle.profile.specs.Rising.{rises_of}
use Rattle.readings.specs.Scan.{reading_kind, value_of, segment_number, reading_of}
use Rattle.readings.specs.declared.Reading.{Reading}
use Rattle.heights.specs.Walk.{EachF32}
use Rattle.heights.specs.Nodes.{height_at}
use Rattle.heights.specs.ReadsByWalk.{read_at}
use Rattle.heights.specs.Gethp.{gethp_of, gethp_scan_of}
use Rattle.heights.specs.GethpWalk.{gethp_walk_of}
use Rattle.heights.specs.Reads.{FortyReads}
use Rattle.heights.specs.SameReads.{SameReading, SameHeights, SameReads, WalkSameAsScan}
use Rattle.heights.proofs.Walks.{walk-is-scan}
use Rattle.heights.proofs.Whole.{forty-reads}
use Rattle.heights.proofs.Finders.{walks-agree, scans-agree}

same-reading : (r t : Reading) → r ≡ t → SameReading r t
same-reading r t e = (ap reading_kind e, equal-same (value_of r) (value_of t) (ap value_of e), ap segment_number e)

reads-same-at : (htr fnsq : List Float) (ht : Float) → EachF32 htr → T (rises_of htr) → T (fits binary32 ht) → (k : ℕ) → k < 40 → SameReading (read_at htr fnsq ht k).reading (reading_of htr fnsq (height_at (at htr 0) ht k))
reads-same-at htr fnsq ht held rises fine k h = same-reading (read_at htr fnsq ht k).reading (reading_of htr fnsq (height_at (at htr 0) ht k)) (walk-is-scan htr fnsq ht held rises fine k h)

pub same_reads : (s : IonoState) (fxx : Float) → FortyReads s fxx → SameReads s fxx
same_reads s fxx r k h = same-reading _ _ (r.scanned k h)

reads_same : (s : IonoState) (fxx : Float) → EachF32 s.htr → T (rises_of s.htr) → SameReads s fxx
reads_same s fxx held rises = same_reads s fxx (forty-reads s fxx held rises)

walked_same : (s : IonoState) (fxx : Float) → EachF32 s.htr → SameHeights (gethp_walk_of s fxx) (gethp_of s fxx)
walked_same s fxx held = let e = walks-agree s held fxx in (equal-same _ _ e.0, equal-same _ _ e.1, e.2)

scanned-same : (s : IonoState) (fxx : Float) → SameHeights (gethp_scan_of s fxx) (gethp_of s fxx)
scanned-same s fxx = let e = scans-agree s fxx in (equal-same _ _ e.0, equal-same _ _ e.1, e.2)

pub walk-same-as-scan : WalkSameAsScan
walk-same-as-scan = record { reads_same = reads_same; reads-same-at = reads-same-at; walked_same = walked_same; scanned-same = scanned-same }
