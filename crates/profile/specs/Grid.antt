-- The fifty heights of the profile, in the order in which `lecden` writes them. All fifty are written, so what stood there before does not show: the list begins as zeros.
use Rattle.std.specs.Prelude.{Bool, true, false, ◌||◌, List, ℕ, zero, suc, ◌+◌, replicate, set, Float}
use Rattle.scalar.specs.F32.{◌+f◌, ◌-f◌, ◌*f◌, ◌/f◌, ◌<f◌, ◌≤f◌, at}
use Rattle.scalar.specs.Literals.{f0, f0_00001, f0_25, f0_5, f1, f6, f10, f22, f32, f70}
use Rattle.scalar.specs.Scalar.{min_of, max_of}
use Rattle.profile.specs.declared.slot_curves.Slot.{Slot}

-- the n places after `from`, each the one before it and hdif
unfoldable pub filled : List Float → ℕ → Float → ℕ → List Float
filled htr from hdif zero = htr
filled htr from hdif (suc n) = set (filled htr from hdif n) (from + n + 1) (at (filled htr from hdif n) (from + n) +f hdif)

-- the D region and the E layer below and above its nose: places 0 to 16
unfoldable pub lower_of : List Float → Slot → Float → List Float
lower_of htr s hex =
    let hd = f70 in
    let htr = set htr 0 hd in
    let htr = set htr 4 hex in
    let hdif = max_of ((at htr 4 -f at htr 0) *f f0_25) f0 in
    let htr = set htr 3 (at htr 4 -f min_of hdif f1) in
    let htr = set htr 1 (at htr 0 +f hdif) in
    let htr = set htr 2 ((at htr 1 +f at htr 3) *f f0_5) in
    let htr = set htr 10 s.hi0 in
    let htr = filled htr 4 ((at htr 10 -f at htr 4) /f f6) 5 in
    let htr = set htr 16 (s.hi0 +f s.yi0) in
    let htr = filled htr 10 ((at htr 16 -f at htr 10) /f f6) 5 in
    set htr 10 (f0_5 *f (at htr 9 +f at htr 11))

-- whether the grid has no F1 part: `s.fi[k][1] <= 0.0`, which a NaN is not, or an F1 that begins above F2
unfoldable pub f2_only_of : Slot → Bool
f2_only_of s =
    let hb2 = s.hi2 -f s.yi2 in
    let hb1n = s.hi1 -f s.yi1 +f f0_00001 in
    (s.fi1 ≤f f0) || (hb2 -f hb1n <f f0)

-- places 17 to 48
abbrev pub upper_by : Bool → List Float → Slot → List Float
upper_by true htr s =
    let htr = set htr 17 (s.hi2 -f s.yi2) in
    filled htr 17 ((at htr 49 -f at htr 17) /f f32) 31
upper_by false htr s =
    let htr = set htr 17 (max_of (s.hi1 -f s.yi1) (at htr 16 +f f1)) in
    let htr = set htr 27 s.hi1 in
    let htr = filled htr 17 ((at htr 27 -f at htr 17) /f f10) 9 in
    filled htr 27 ((at htr 49 -f at htr 27) /f f22) 21

unfoldable pub upper_of : List Float → Slot → List Float
upper_of htr s = upper_by (f2_only_of s) htr s

-- of the reshaped slot
unfoldable pub heights_of : Slot → Float → List Float
heights_of s hex = upper_of (set (lower_of (replicate 50 f0) s hex) 49 s.hi2) s
