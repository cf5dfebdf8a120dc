-- A row takes from `gethp` its two heights and its segment only: two ways of finding heights that agree on a state give it the same rows.
use mathlib.Core.Bool.{Bool, true, false}
use mathlib.Core.List.{List}
use mathlib.Core.Path.{◌≡◌, refl}
use Prim.Native.Nat.{ℕ, zero, suc, ◌+◌, ◌*◌}
use lib.Ieee.{Float}
use Rattle.scalar.specs.F32.{◌>f◌, at}
use Rattle.scalar.specs.Literals.{f0}
use Rattle.layers.specs.State.{profile_only}
use Rattle.layers.specs.declared.IonoState.{IonoState}
use Rattle.heights.specs.Gethp.{Finder, gethp_of, gethp_scan_of}
use Rattle.heights.proofs.Finders.{Agree, scans-agree}
use Rattle.sounding.specs.Rows.{rows_of, virtual_by, rows_by, rows_with}
use Rattle.sounding.specs.Genion.{fvert_at, genion_with, genion_of}

-- rows by two functions that agree at every frequency
pub rows_agree : {A : Type 0} (row other : Float → A) → ((f : Float) → row f ≡ other f) → (fv : List Float) (first : ℕ) (out : List A) (n : ℕ) → rows_of row fv first out n ≡ rows_of other fv first out n
unfolding rows_of
rows_agree row other e fv first out zero = refl
rows_agree row other e fv first out (suc n) = rw (rows_agree row other e fv first out n, e (at fv (first + n)))

module _ (find other : Finder) (s : IonoState) (agree : Agree find other s) where
  virtual-agrees : (b : Bool) (k : ℕ) (f : Float) → virtual_by b find s k f ≡ virtual_by b other s k f
  virtual-agrees true k f = (agree f).0
  virtual-agrees false k f = refl

  by_shape : (b : Bool) (k : ℕ) (fv : List Float) → rows_by b find s k fv ≡ rows_by b other s k fv
  by_shape true k fv =
      rw (rows_agree (λ f. (find s f).hp) (λ f. (other s f).hp) (λ f. (agree f).0) fv 0 _ 30, rows_agree (λ f. (find s f).ht) (λ f. (other s f).ht) (λ f. (agree f).1) fv 0 _ 30, rows_agree (λ f. (find s f).segment) (λ f. (other s f).segment) (λ f. (agree f).2) fv 0 _ 30)
  by_shape false k fv =
      rw (rows_agree _ _ (virtual-agrees (at s.fi (3 * k + 1) >f f0) k) fv 10 _ 20)

  pub genion-agrees : (k : ℕ) → genion_with find s k ≡ genion_with other s k
  unfolding genion_with rows_with
  genion-agrees k = by_shape (profile_only s) k (fvert_at s k)

-- forty scans in place of each walk: the same heights, so the same rows
pub genion-scan : (s : IonoState) (k : ℕ) → genion_with gethp_scan_of s k ≡ genion_of s k
genion-scan s k = genion-agrees gethp_scan_of gethp_of s (scans-agree s) k
