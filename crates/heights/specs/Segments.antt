-- What the segment handed up says: that of the search over the densities, 0 to 49, or 50 just where the first test ends the function and nothing is sought.
use Rattle.std.specs.Prelude.{true, false, List, ◌≡◌, ◌≤◌, Float}
use Rattle.scalar.specs.F32.{◌-f◌, ◌*f◌, ◌≤f◌, ◌>f◌, at}
use Rattle.scalar.specs.Literals.{f0}
use Rattle.layers.specs.declared.IonoState.{IonoState}
use Rattle.readings.specs.Scan.{profile_segment_of}
use Rattle.heights.specs.Gethp.{gethp_of}
use Rattle.readings.specs.Xlin.{xlin_segment_of}

pub record SegmentsFound : Type 0 where
  pub gethp-sought : (s : IonoState) (fxx : Float) → (fxx *f fxx -f at s.fnsq 0 ≤f f0) ≡ false → ((gethp_of s fxx).segment ≡ profile_segment_of s.fnsq s.htr (fxx *f fxx)) × ((gethp_of s fxx).segment ≤ 49)
  pub gethp-ended : (s : IonoState) (fxx : Float) → (fxx *f fxx -f at s.fnsq 0 ≤f f0) ≡ true → (gethp_of s fxx).segment ≡ 50
  pub xlin-sought : (x : Float) (xn yn : List Float) → (at xn 0 -f x >f f0) ≡ false → (xlin_segment_of x xn yn ≡ profile_segment_of xn yn x) × (xlin_segment_of x xn yn ≤ 49)
  pub xlin-ended : (x : Float) (xn yn : List Float) → (at xn 0 -f x >f f0) ≡ true → xlin_segment_of x xn yn ≡ 50
