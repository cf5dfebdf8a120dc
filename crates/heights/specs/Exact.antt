-- `virtual_height_exact`: the integral over the profile's segments up to the reflecting height, each in closed form, since the density is linear in height on a segment. Line by line as in the Rust.
use Rattle.std.specs.Prelude.{cond, List, ◌≡◌, ℕ, zero, suc, ◌+◌, ◌-◌, Float}
use Rattle.std.specs.Float.{binary32}
use Rattle.std.specs.Float.Ieee.{of_bits}
use Rattle.scalar.specs.F32.{◌+f◌, ◌-f◌, ◌*f◌, ◌/f◌, ◌<f◌, ◌≤f◌, ◌≥f◌, at}
use Rattle.scalar.specs.Literals.{f0, f0_9999, f1, f2, decimal}
use Rattle.scalar.specs.Root.{sqrt_of}
use Rattle.scalar.specs.Scalar.{min_of, max_of, abs_of}

-- the one literal that no other function has
abbrev pub f0_000000001 : Float
f0_000000001 = of_bits binary32 0x3089705f

-- it is the f32 nearest to 1e-9
abbrev pub FlatNearest : Type 0
FlatNearest = f0_000000001 ≡ decimal 1 9

-- ---- last: the place of the first height at or above top, and 49 where there is none, as for a NaN
-- among the n heights from ih on
unfoldable pub first_from : List Float → Float → ℕ → ℕ → ℕ
first_from htr top zero ih = 49
first_from htr top (suc n) ih = cond (at htr ih ≥f top) ih (first_from htr top n (ih + 1))

abbrev pub last_of : List Float → Float → ℕ
last_of htr top = first_from htr top 50 0

-- ---- seg: the integral from the height z1 to z2, where the density over fr goes from y1 to y2
unfoldable pub seg_of : Float → Float → Float → Float → Float
seg_of z1 y1 z2 y2 =
    let dz = z2 -f z1 in
    cond (dz ≤f f0) f0
    (cond (abs_of (y2 -f y1) <f f0_000000001) (dz /f sqrt_of (f1 -f min_of y1 f0_9999))
    (f2 *f dz /f (y2 -f y1) *f (sqrt_of (max_of (f1 -f y1) f0) -f sqrt_of (max_of (f1 -f y2) f0))))

-- ---- whole: the lowest n segments, from the lowest on
unfoldable pub whole_of : List Float → List Float → Float → ℕ → Float
whole_of htr fnsq fr zero = f0
whole_of htr fnsq fr (suc i) = whole_of htr fnsq fr i +f seg_of (at htr i) (at fnsq i /f fr) (at htr (i + 1)) (min_of (at fnsq (i + 1) /f fr) f1)

-- ---- the whole segments below the reflecting height, then the part of one that ends on it; ht is the reflecting height less the lowest one
unfoldable pub virtual_height_exact_of : List Float → List Float → Float → Float → Float
virtual_height_exact_of htr fnsq fr ht =
    let top = at htr 0 +f ht in
    let last = last_of htr top in
    whole_of htr fnsq fr (last - 1) +f seg_of (at htr (last - 1)) (at fnsq (last - 1) /f fr) top f1
