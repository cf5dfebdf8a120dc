-- The sum and the test of the prices are the library's; a sum of prices that pass is bounded, and the answers that come of it.
use mathlib.Core.Bool.{Bool, true, false, ◌&&◌, false≢true}
use mathlib.Core.List.{List, [], ◌∷◌}
use mathlib.Core.Path.{◌≡◌, refl, sym}
use Prim.Native.Nat.{ℕ, ◌+◌, ◌*◌, ◌^◌, suc, ◌≤◌, ◌<◌}
use native.Mathlib.Omega.{arith}
use borrow.Author.Tests.{leb-true, le-leb, lt-leb}
use lib.Dec.{leb}
use lib.ListN.{length}
use Rattle.std.specs.Prelude.{Ok, Err, sum}
use Rattle.std.specs.List.{list_all}
use Rattle.std.proofs.lemmas.List.Recursion.{same_from_clauses, is_sum_by}
use Rattle.refusal.specs.declared.Refusal.{Refusal}
use Rattle.totals.specs.Total.{sum_of, prices_good, total_of}

pub sum-is : (ps : List ℕ) → sum ps ≡ sum_of ps
unfolding sum_of
sum-is ps = sym (is_sum_by sum_of (λ p. p) refl (λ _ _. refl) ps)

pub good-is : (ps : List ℕ) → list_all (λ p. leb p 14400000) ps ≡ prices_good ps
unfolding prices_good
good-is ps = same_from_clauses (list_all (λ p. leb p 14400000)) prices_good (λ p b. leb p 14400000 && b) refl (λ _ _. refl) (λ _ _. refl) ps

-- n prices that pass
pub sum-most : (ps : List ℕ) → prices_good ps ≡ true → sum_of ps ≤ 14400000 * length ps
unfolding sum_of prices_good
sum-most [] t = omega arith
sum-most (p ∷ ps) t = step (leb p 14400000) refl t (sum-most ps)
  where
    step : (b : Bool) → leb p 14400000 ≡ b → (b && prices_good ps) ≡ true → (prices_good ps ≡ true → sum_of ps ≤ 14400000 * length ps) → p + sum_of ps ≤ 14400000 * suc (length ps)
    step true e t k = omega (arith, leb-true p 14400000 e, k t)
    step false e t k = absurd (false≢true t)

pub sum-fits : (ps : List ℕ) → length ps ≤ 256 → prices_good ps ≡ true → sum ps < 2 ^ 32
sum-fits ps h t = omega (arith, sum-most ps t, sum-is ps)

pub too_many : (ps : List ℕ) → 256 < length ps → Err Refusal.Prices ≡ total_of ps
unfolding total_of
too_many ps h = rw (lt-leb _ _ h)

pub too-dear : (ps : List ℕ) → length ps ≤ 256 → prices_good ps ≡ false → Err Refusal.Prices ≡ total_of ps
unfolding total_of
too-dear ps h t = rw (le-leb _ _ h, t)

pub all-passed : (ps : List ℕ) (s : ℕ) → length ps ≤ 256 → prices_good ps ≡ true → s ≡ sum ps → Ok s ≡ total_of ps
unfolding total_of
all-passed ps s h t e = rw (le-leb _ _ h, t, e, sum-is ps)
