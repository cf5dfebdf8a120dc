-- The search for `last` does not stop at the lowest height: top is above it, or NaN.
use mathlib.Core.Path.{◌≡◌, refl}
use mathlib.Core.Logic.{inl, inr}
use mathlib.Core.Bool.{Bool, true, false, cond}
use mathlib.Core.List.{List}
use Prim.Native.Nat.{ℕ, zero, suc, ◌+◌, ◌≤◌}
use native.Mathlib.Omega.{arith}
use lib.Dec.{T, not_T}
use lib.Ieee.{Float, nan, inf, fin, binary32, fits, is_nan, lt, le}
use lib.Ieee.Bits.{is_false}
use Rattle.scalar.specs.F32.{◌+f◌, ◌-f◌, ◌≥f◌, ◌>f◌, at}
use Rattle.scalar.specs.Literals.{f0}
use Rattle.std.proofs.lemmas.Float.{lt_irrefl, lt_of_lt_of_le}
use mir.Facts.{or_yes}
use Rattle.heights.specs.Exact.{first_from, last_of}
use Rattle.heights.specs.Lowest.{LastFromOne}
use Rattle.heights.proofs.height_integral.Above.{above-lowest}

-- ---- a search from above the lowest height ends above it
from_one : (htr : List Float) (top : Float) (n ih : ℕ) → 1 ≤ ih → 1 ≤ first_from htr top n ih
unfolding first_from
from_one htr top zero ih h = omega arith
from_one htr top (suc n) ih h = go (at htr ih ≥f top) (from_one htr top n (ih + 1) (omega arith))
  where
    go : (b : Bool) → 1 ≤ first_from htr top n (ih + 1) → 1 ≤ cond b ih (first_from htr top n (ih + 1))
    go true k = h
    go false k = k

one-look : (htr : List Float) (top : Float) (n ih : ℕ) → first_from htr top (suc n) ih ≡ cond (at htr ih ≥f top) ih (first_from htr top n (ih + 1))
unfolding first_from
one-look htr top n ih = refl

pub at_most : (htr : List Float) (top : Float) (n ih : ℕ) → ih + n ≤ 50 → first_from htr top n ih ≤ 49
unfolding first_from
at_most htr top zero ih l = omega arith
at_most htr top (suc n) ih l = go (at htr ih ≥f top) (at_most htr top n (ih + 1) (omega arith))
  where
    go : (b : Bool) → first_from htr top n (ih + 1) ≤ 49 → cond b ih (first_from htr top n (ih + 1)) ≤ 49
    go true k = omega arith
    go false k = k

pub past_first : (htr : List Float) (top : Float) → (at htr 0 ≥f top) ≡ false → 1 ≤ last_of htr top
past_first htr top e = rw (one-look htr top 49 0, e) (from_one htr top 49 1 (omega arith))

-- ---- top is above the lowest height, or NaN
not-nan : (y h0 : Float) → T (is_nan y) → le y h0 ≡ false
unfolding is_nan le
not-nan nan h0 n = refl
not-nan (inf s) h0 n = absurd n
not-nan (fin s m e) h0 n = absurd n

pub lowest-below : (x h0 : Float) → T (fits binary32 x) → T (fits binary32 h0) → T (x -f h0 >f f0) → (h0 ≥f (h0 +f (x -f h0))) ≡ false
lowest-below x h0 p q h =
    let y = h0 +f (x -f h0) in
    elim (or_yes (is_nan y) (lt h0 y) (above-lowest x h0 p q h)) [ inl n ↦ not-nan y h0 n | inr l ↦ is_false (le y h0) (not_T (le y h0) (λ k. lt_irrefl h0 (lt_of_lt_of_le h0 y h0 l k))) ]

pub last-from-one : LastFromOne
last-from-one htr x p q h = let top = at htr 0 +f (x -f at htr 0) in (past_first htr top (lowest-below x (at htr 0) p q h), at_most htr top 50 0 (omega arith))
