-- What keeps the rule from the index before the first height: `last` is at least 1 wherever the rule is used. Statements; they are proved in proofs/ (`above-lowest`, `last-from-one`).
use Rattle.std.specs.Prelude.{◌||◌, List, ◌≤◌, T, Float}
use Rattle.std.specs.Float.{binary32}
use Rattle.std.specs.Float.Ieee.{fits, is_nan}
use Rattle.scalar.specs.F32.{◌+f◌, ◌-f◌, ◌>f◌, at}
use Rattle.scalar.specs.Literals.{f0}
use Rattle.heights.specs.Exact.{last_of}

-- where the reflecting height less the lowest one is above zero, the lowest plus that difference is above the lowest or NaN
abbrev pub AboveLowest : Type 0
AboveLowest = (x h0 : Float) → T (fits binary32 x) → T (fits binary32 h0) → T (x -f h0 >f f0) → T (is_nan (h0 +f (x -f h0)) || (h0 +f (x -f h0) >f h0))

-- so the first height at or above it is not the lowest, on any profile, and it is one of the fifty
abbrev pub LastFromOne : Type 0
LastFromOne = (htr : List Float) (x : Float) → T (fits binary32 x) → T (fits binary32 (at htr 0)) → T (x -f at htr 0 >f f0) → let last = last_of htr (at htr 0 +f (x -f at htr 0)) in (1 ≤ last) × (last ≤ 49)
