-- A number read off a profile by a scan: the Rust's `profile_interpolate`, with the kind of the reading kept. `probe` is sought in `from`, and what stands there in `to` is
-- the answer. A test written as a difference against zero stays one: at two equal infinities it is not a comparison.
use Rattle.std.specs.Prelude.{Bool, true, false, cond, ◌&&◌, List, ℕ, zero, suc, ◌+◌, Float, Option, Some, None}
use Rattle.scalar.specs.F32.{at, ◌+f◌, ◌-f◌, ◌*f◌, ◌/f◌, ◌<f◌, ◌≤f◌, ◌>f◌, ◌≥f◌, ◌==f◌}
use Rattle.scalar.specs.Literals.{f0}
use Rattle.readings.specs.declared.Reading.{Reading}
use Rattle.readings.specs.declared.Reading.TheVariants.{Floor, Segment, Top}
use Rattle.readings.specs.declared.Found.{Found}

-- the number that a reading carries
unfoldable pub value_of : Reading → Float
value_of (Floor v) = v
value_of (Segment v n) = v
value_of (Top v) = v

-- and its kind: floor 0, on a segment 1, top 2
unfoldable pub reading_kind : Reading → ℕ
reading_kind (Floor v) = 0
reading_kind (Segment v n) = 1
reading_kind (Top v) = 2

-- its segment: 0 to 48 on a segment, 0 on the floor, 49 at the top
unfoldable pub segment_number : Reading → ℕ
segment_number (Floor v) = 0
segment_number (Segment v n) = n
segment_number (Top v) = 49

-- ---- one segment, from (from0, to0) to (from1, to1)
-- the number on its line
abbrev pub interpolated : Float → Float → Float → Float → Float → Float
interpolated from0 from1 to0 to1 probe = to0 +f (probe -f from0) *f (to1 -f to0) /f (from1 -f from0)

-- does it hold the probe: test by test as in the Rust, with d = from0 - from1; a segment that does not hold it is passed over
unfoldable pub segment_of : Float → Float → Float → Float → Float → Option Float
segment_of from0 from1 to0 to1 probe =
    let d = from0 -f from1 in
    let y = interpolated from0 from1 to0 to1 probe in
    cond (d <f f0)
    (cond (from0 -f probe ≤f f0) (cond (probe -f from1 <f f0) (Some y) None) (Some y))
    (cond (d ==f f0)
    (cond (probe -f from0 ==f f0) (Some to0) None)
    (cond ((from0 -f probe ≥f f0) && (probe -f from1 >f f0)) (Some y) None))

-- ---- the scan: a segment has the number of its lower node, also where its two nodes are equal and met exactly
abbrev pub or_on : Option Float → ℕ → Reading → Reading
or_on (Some v) ih r = Segment v ih
or_on None ih r = r

-- the n segments from ih on: the first that holds the probe, or the last number
unfoldable pub scan_from : List Float → List Float → Float → ℕ → ℕ → Reading
scan_from from to probe zero ih = Top (at to ih)
scan_from from to probe (suc n) ih = or_on (segment_of (at from ih) (at from (ih + 1)) (at to ih) (at to (ih + 1)) probe) ih (scan_from from to probe n (ih + 1))

abbrev pub scan_of : List Float → List Float → Float → Reading
scan_of from to probe = scan_from from to probe 49 0

unfoldable pub profile_interpolate_of : List Float → List Float → Float → Float
profile_interpolate_of from to probe = value_of (scan_of from to probe)

-- the segment on which it is found
unfoldable pub profile_segment_of : List Float → List Float → Float → ℕ
profile_segment_of from to probe = segment_number (scan_of from to probe)

-- and what stands in its place where nothing was sought
abbrev pub unsearched : ℕ
unsearched = 50

abbrev pub found_of : List Float → List Float → Float → Found
found_of from to probe = record { value = profile_interpolate_of from to probe; segment = profile_segment_of from to probe }

-- ---- a density at the height zi
abbrev pub reading_by : Bool → List Float → List Float → Float → Reading
reading_by true htr fnsq zi = Floor (at fnsq 0)
reading_by false htr fnsq zi = scan_of htr fnsq zi

unfoldable pub reading_of : List Float → List Float → Float → Reading
reading_of htr fnsq zi = reading_by (zi -f at htr 0 ≤f f0) htr fnsq zi
