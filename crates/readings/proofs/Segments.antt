-- A scan tries the segments from the lowest on and stops at the first that holds the probe: all below have missed it. So its number is 0 to 48, or 49 where none holds it.
use mathlib.Core.Bool.{Bool, true, false}
use mathlib.Core.List.{List}
use mathlib.Core.Logic.{inl, inr}
use mathlib.Core.Path.{◌≡◌, refl, sym, ap, subst}
use Prim.Native.Nat.{ℕ, zero, suc, ◌+◌, ◌≤◌, ◌<◌, zero-le}
use native.Mathlib.Nat.{le_refl, eq-or-lt_of_le}
use native.Mathlib.Omega.{arith}
use lib.Ieee.{Float}
use Rattle.scalar.specs.F32.{◌-f◌, ◌≤f◌, at}
use Rattle.scalar.specs.Literals.{f0}
use Rattle.readings.specs.Scan.{segment_number, or_on, scan_from, scan_of, profile_segment_of, reading_by, reading_of}
use Rattle.readings.specs.Segments.{segment_at, FirstHeld}
use Rattle.std.specs.Prelude.{Option, Some, None}
use Rattle.readings.specs.declared.Reading.{Reading}
use Rattle.readings.specs.declared.Reading.TheVariants.{Floor, Segment, Top}

module _ (from to : List Float) (probe : Float) where
  abbrev Missed : ℕ → Type 0
  Missed i = (j : ℕ) → j < i → segment_at from to probe j ≡ None

  one_more : (i : ℕ) → Missed i → segment_at from to probe i ≡ None → Missed (i + 1)
  one_more i m e j h = elim (eq-or-lt_of_le (below h)) [ inl x ↦ subst (λ (k : ℕ). segment_at from to probe k ≡ None) (sym x) e | inr l ↦ m j l ]
    where
      below : j < i + 1 → j ≤ i
      below k = omega arith

  held-from : (n i : ℕ) → i + n ≡ 49 → Missed i → FirstHeld from to probe (scan_from from to probe n i)
  unfolding scan_from
  held-from zero i e m = (ap (at to) last, λ j h. m j (within j h))
    where
      last : i ≡ 49
      last = omega arith

      within : (j : ℕ) → j < 49 → j < i
      within j h = omega arith
  held-from (suc n) i e m = go (segment_at from to probe i) refl (λ (more : Missed (i + 1)). held-from n (i + 1) (omega arith) more)
    where
      go : (h : Option Float) → segment_at from to probe i ≡ h → (Missed (i + 1) → FirstHeld from to probe (scan_from from to probe n (i + 1))) → FirstHeld from to probe (or_on h i (scan_from from to probe n (i + 1)))
      go (Some v) x rest = (omega arith, x, m)
      go None x rest = rest (one_more i m x)

  pub first-held : FirstHeld from to probe (scan_of from to probe)
  first-held = held-from 49 0 refl none
    where
      none : Missed 0
      none j h = absurd (omega arith)

  within : (r : Reading) → FirstHeld from to probe r → segment_number r ≤ 49
  unfolding segment_number
  within (Floor v) h = zero-le
  within (Segment v n) h = let l = h.0 in omega arith
  within (Top v) h = le_refl 49

  -- the number is a line of the profile's fifty
  pub search-within : profile_segment_of from to probe ≤ 49
  unfolding profile_segment_of
  search-within = within (scan_of from to probe) first-held

  pub reading-within : segment_number (reading_of from to probe) ≤ 49
  unfolding reading_of segment_number
  reading-within = go (probe -f at from 0 ≤f f0)
    where
      go : (b : Bool) → segment_number (reading_by b from to probe) ≤ 49
      go true = zero-le
      go false = within (scan_of from to probe) first-held
