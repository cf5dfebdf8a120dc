-- `gethp`: the virtual and the true height of a vertical frequency, off the density profile, with the cursor that the paper adds and the segment of the true height: that of the search over the densities.
-- The densities are those of forty full scans. On a rising profile the code reads them by one walk; that this is the same is `FortyReads.scanned`, proved of every such profile (`forty-reads`). Where the state's switch is on and the reflecting height is above the lowest one,
-- no density is read: the virtual height is the integral evaluated.
use Rattle.std.specs.Prelude.{Bool, true, false, ◌&&◌, List, ℕ, zero, suc, Float}
use Rattle.scalar.specs.F32.{◌+f◌, ◌-f◌, ◌*f◌, ◌/f◌, ◌≤f◌, ◌>f◌, at}
use Rattle.scalar.specs.Literals.{f0, f1}
use Rattle.scalar.specs.Root.{sqrt_of}
use Rattle.layers.specs.declared.IonoState.{IonoState}
use Rattle.profile.specs.Rising.{rises_of}
use Rattle.readings.specs.Scan.{profile_interpolate_of, profile_segment_of, unsearched}
use Rattle.readings.specs.Cursor.{count_of}
use Rattle.heights.specs.Exact.{virtual_height_exact_of}
use Rattle.heights.specs.Nodes.{xnpl, twdiv, height_at}
use Rattle.heights.specs.Densities.{ysq_of}
use Rattle.heights.specs.Weights.{wt}
use Rattle.heights.specs.declared.Heights.{Heights}

-- ---- the quadrature
unfoldable pub mup_of : Float → Float
mup_of ysq = f1 /f sqrt_of (f1 -f ysq)

-- the first terms, from ig = 0 on
unfoldable pub hp_of : (ℕ → ℕ → Float) → ℕ → Float
hp_of ysq zero = f0
hp_of ysq (suc ig) = hp_of ysq ig +f at wt ig *f (mup_of (ysq ig 0) +f mup_of (ysq ig 1))

-- ---- the two heights of the difference ht between the reflecting height and the lowest one, found on the segment given: by the exact rule, with no walk, or by the sum over the densities, with its cursor
abbrev pub heights_by : Bool → List Float → List Float → Float → Float → ℕ → (ℕ → ℕ → Float) → ℕ → Heights
heights_by true htr fnsq fr ht segment ysq cursor = record { hp = at htr 0 +f virtual_height_exact_of htr fnsq fr ht; ht = at htr 0 +f ht; cursor = 0; segment = segment }
heights_by false htr fnsq fr ht segment ysq cursor =
    let hrmz = ht *f twdiv *f xnpl in
    let hp = hp_of ysq 20 in
    record { hp = at htr 0 +f hrmz *f hp; ht = at htr 0 +f ht; cursor = cursor; segment = segment }

-- ---- the whole, over the densities and the cursor that a height difference gives: is fr - fnsq[0] <= 0, and the switch
abbrev pub gethp_by : Bool → Bool → List Float → List Float → Float → (Float → ℕ → ℕ → Float) → (Float → ℕ) → Heights
gethp_by true exact htr fnsq fr ysq cursor = record { hp = at htr 0; ht = at htr 0; cursor = 0; segment = unsearched }
gethp_by false exact htr fnsq fr ysq cursor =
    let ht = profile_interpolate_of fnsq htr fr -f at htr 0 in
    heights_by (exact && (ht >f f0)) htr fnsq fr ht (profile_segment_of fnsq htr fr) (ysq ht) (cursor ht)

-- the cursor after the last read: the paper's count where the heights rise, and 0 where no walk runs
unfoldable pub cursor_by : Bool → List Float → Float → ℕ
cursor_by true htr ht = count_of htr (height_at (at htr 0) ht 39)
cursor_by false htr ht = 0

-- ---- ways of finding the two heights of a frequency on a state. A definition that takes one, as `find`, is named With; with `gethp_of`, the contracts' way, it is named Of
abbrev pub Finder : Type 0
Finder = IonoState → Float → Heights

unfoldable pub gethp_of : Finder
gethp_of s fxx =
    let htr = s.htr in
    let fnsq = s.fnsq in
    let fr = fxx *f fxx in
    gethp_by (fr -f at fnsq 0 ≤f f0) s.exact_virtual_height htr fnsq fr (λ ht. ysq_of htr fnsq ht fr) (λ ht. cursor_by (rises_of htr) htr ht)

-- with forty scans on every profile where densities are read: no walk, so no cursor
unfoldable pub gethp_scan_of : Finder
gethp_scan_of s fxx =
    let htr = s.htr in
    let fnsq = s.fnsq in
    let fr = fxx *f fxx in
    gethp_by (fr -f at fnsq 0 ≤f f0) s.exact_virtual_height htr fnsq fr (λ ht. ysq_of htr fnsq ht fr) (λ ht. 0)
