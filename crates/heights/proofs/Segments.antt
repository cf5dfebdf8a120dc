-- By the first test of each: past it the segment is the search's, which is at most 49.
use mathlib.Core.Bool.{Bool, true, false, ◌&&◌}
use mathlib.Core.List.{List}
use mathlib.Core.Path.{◌≡◌, refl}
use Prim.Native.Nat.{ℕ}
use native.Mathlib.Nat.{le_trans, le_of_eq}
use lib.Ieee.{Float}
use Rattle.scalar.specs.F32.{◌-f◌, ◌*f◌, ◌≤f◌, ◌>f◌, at}
use Rattle.scalar.specs.Literals.{f0}
use Rattle.layers.specs.declared.IonoState.{IonoState}
use Rattle.profile.specs.Rising.{rises_of}
use Rattle.readings.specs.Scan.{profile_interpolate_of, profile_segment_of}
use Rattle.readings.proofs.Segments.{search-within}
use Rattle.heights.specs.Densities.{ysq_of}
use Rattle.heights.specs.Gethp.{cursor_by, heights_by, gethp_of}
use Rattle.readings.specs.Xlin.{xlin_segment_of}
use Rattle.heights.specs.Segments.{SegmentsFound}

segment-by : (r : Bool) (htr fnsq : List Float) (fr ht : Float) (segment : ℕ) (ysq : ℕ → ℕ → Float) (c : ℕ) → (heights_by r htr fnsq fr ht segment ysq c).segment ≡ segment
segment-by true htr fnsq fr ht segment ysq c = refl
segment-by false htr fnsq fr ht segment ysq c = refl

gethp-is : (s : IonoState) (fxx : Float) → (fxx *f fxx -f at s.fnsq 0 ≤f f0) ≡ false → (gethp_of s fxx).segment ≡ profile_segment_of s.fnsq s.htr (fxx *f fxx)
unfolding gethp_of
gethp-is s fxx e =
    let ht = profile_interpolate_of s.fnsq s.htr (fxx *f fxx) -f at s.htr 0 in
    rw e
    (segment-by (s.exact_virtual_height && (ht >f f0)) s.htr s.fnsq (fxx *f fxx) ht (profile_segment_of s.fnsq s.htr (fxx *f fxx))
    (ysq_of s.htr s.fnsq ht (fxx *f fxx)) (cursor_by (rises_of s.htr) s.htr ht))

gethp-none : (s : IonoState) (fxx : Float) → (fxx *f fxx -f at s.fnsq 0 ≤f f0) ≡ true → (gethp_of s fxx).segment ≡ 50
unfolding gethp_of
gethp-none s fxx e = rw e

xlin-is : (x : Float) (xn yn : List Float) → (at xn 0 -f x >f f0) ≡ false → xlin_segment_of x xn yn ≡ profile_segment_of xn yn x
unfolding xlin_segment_of
xlin-is x xn yn e = rw e

xlin-none : (x : Float) (xn yn : List Float) → (at xn 0 -f x >f f0) ≡ true → xlin_segment_of x xn yn ≡ 50
unfolding xlin_segment_of
xlin-none x xn yn e = rw e

pub segments-found : SegmentsFound
segments-found =
    record {
      gethp-sought = λ s fxx e. (gethp-is s fxx e, le_trans (le_of_eq (gethp-is s fxx e)) (search-within s.fnsq s.htr (fxx *f fxx)));
      gethp-ended = gethp-none;
      xlin-sought = λ x xn yn e. (xlin-is x xn yn e, le_trans (le_of_eq (xlin-is x xn yn e)) (search-within xn yn x));
      xlin-ended = xlin-none;
    }
