-- Slot k's three places of the tables are read back as they were written, and every other slot's places are other places.
use mathlib.Core.Bool.{Bool, false}
use mathlib.Core.Path.{◌≡◌, refl, sym, subst, ◌∙◌}
use mathlib.Core.Logic.{◌≢◌}
use Prim.Native.Nat.{ℕ, ◌+◌, ◌*◌, ◌<◌}
use native.Mathlib.Omega.{arith}
use lib.Seq.{get_or-set_same, get_or-set_other}
use lib.Ieee.{nan}
use Rattle.layers.specs.declared.IonoState.{IonoState}
use Rattle.profile.specs.F1.{reshaped_of}
use Rattle.profile.specs.Lecden.{slot_at, slot_written, supplied_of, lecden_by, lecden_of}
use Rattle.profile.specs.Prepared.{Shaped, Prepared}
use Rattle.profile.proofs.Keeps.{lecden-keeps}
use Rattle.profile.specs.declared.slot_curves.Slot.{Slot}
use Rattle.profile.specs.declared.slot_curves.F1Shape.{F1Shape}

module _ (k j : ℕ) (h : j ≢ k) where
  e-other : 3 * j ≢ 3 * k + 1
  e-other e = absurd (omega arith)

  f1-other : 3 * j + 1 ≢ 3 * k + 1
  f1-other e = h (omega arith)

  f2-other : 3 * j + 2 ≢ 3 * k + 1
  f2-other e = absurd (omega arith)

read-own : (s : IonoState) (k : ℕ) (f : F1Shape) → Shaped s → k < 3 → slot_at (slot_written s k (reshaped_of (slot_at s k) f)) k ≡ reshaped_of (slot_at s k) f
unfolding slot_at slot_written reshaped_of
read-own s k f l h =
    let yi = s.yi in
    let hi = s.hi in
    rw (
      get_or-set_other yi (3 * k + 1) (3 * k) f.yi1 nan (λ e. absurd (omega arith)),
      get_or-set_same yi (3 * k + 1) f.yi1 nan (omega (arith, l.yi-long)),
      get_or-set_other yi (3 * k + 1) (3 * k + 2) f.yi1 nan (λ e. absurd (omega arith)),
      get_or-set_other hi (3 * k + 1) (3 * k) f.hi1 nan (λ e. absurd (omega arith)),
      get_or-set_same hi (3 * k + 1) f.hi1 nan (omega (arith, l.hi-long)),
      get_or-set_other hi (3 * k + 1) (3 * k + 2) f.hi1 nan (λ e. absurd (omega arith)),
      get_or-set_same s.fsecv k f.fsec nan (omega (arith, l.fsecv-long)),
    )

read-other : (s : IonoState) (k j : ℕ) (p : Slot) → j ≢ k → slot_at (slot_written s k p) j ≡ slot_at s j
unfolding slot_at slot_written
read-other s k j p h =
    let yi = s.yi in
    let hi = s.hi in
    rw (
      get_or-set_other yi (3 * k + 1) (3 * j) p.yi1 nan (e-other k j h),
      get_or-set_other yi (3 * k + 1) (3 * j + 1) p.yi1 nan (f1-other k j h),
      get_or-set_other yi (3 * k + 1) (3 * j + 2) p.yi1 nan (f2-other k j h),
      get_or-set_other hi (3 * k + 1) (3 * j) p.hi1 nan (e-other k j h),
      get_or-set_other hi (3 * k + 1) (3 * j + 1) p.hi1 nan (f1-other k j h),
      get_or-set_other hi (3 * k + 1) (3 * j + 2) p.hi1 nan (f2-other k j h),
      get_or-set_other s.fsecv k j p.fsec nan h,
    )

slot-profiled : (s : IonoState) (k : ℕ) → Shaped s → k < 3 → Prepared s (lecden_by false s k) k
unfolding slot_at
slot-profiled s k l h =
    record { own = read-own s k _ l h; others = λ j n. read-other s k j _ n; heights = refl; densities = refl; mark = refl; owner = refl }

-- what `lecden` works out where no profile is supplied
pub lecden-prepares : (s : IonoState) (k : ℕ) → s.ielect ≡ false → Shaped s → k < 3 → Prepared s (lecden_of s k) k
unfolding lecden_of supplied_of
lecden-prepares s k e l h = subst (λ (b : Bool). Prepared s (lecden_by b s k) k) (sym e) (slot-profiled s k l h)

-- the lengths last
pub lecden-shaped : (s : IonoState) (k : ℕ) → Shaped s → Shaped (lecden_of s k)
lecden-shaped s k l =
    let w = lecden-keeps s k in
    record { yi-long = w.yi-kept.long ∙ l.yi-long; hi-long = w.hi-kept.long ∙ l.hi-long; fsecv-long = w.fsecv-kept.long ∙ l.fsecv-long }
