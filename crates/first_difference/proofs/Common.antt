-- `common_of` counts the longest common beginning: first bytes that are the same belong to it, and where they differ it has ended.
use Prim.Native.Nat.{ℕ, zero, suc, ◌≤◌}
use mathlib.Core.Path.{◌≡◌, refl}
use mathlib.Core.Bool.{Bool, true, false, cond}
use mathlib.Core.List.{List, [], ◌∷◌}
use native.Mathlib.Omega.{arith}
use borrow.Author.Tests.{eqb-true, eqb-false}
use lib.Dec.{eqb}
use lib.ListN.{length, take}
use Rattle.first_difference.specs.Closed.{common_of}
use Rattle.first_difference.specs.Laws.{Longest}

alike : (a b : ℕ) (s t : List ℕ) (n : ℕ) → a ≡ b → Longest s t n → Longest (a ∷ s) (b ∷ t) (suc n)
alike a b s t n e r =
    let w = r.within in
    record { within = (omega arith, omega arith); common = let c = r.common in cc; longest = longest }
  where
    longest : (m : ℕ) → m ≤ length (a ∷ s) → m ≤ length (b ∷ t) → take m (a ∷ s) ≡ take m (b ∷ t) → m ≤ suc n
    longest zero h k f = omega arith
    longest (suc m) h k f =
        let g : take m s ≡ take m t = cc in
        let l = r.longest m (omega arith) (omega arith) g in
        omega arith

apart : (a b : ℕ) (s t : List ℕ) → (a ≡ b → ⊥) → Longest (a ∷ s) (b ∷ t) 0
apart a b s t d = record { within = (omega arith, omega arith); common = refl; longest = longest }
  where
    longest : (m : ℕ) → m ≤ length (a ∷ s) → m ≤ length (b ∷ t) → take m (a ∷ s) ≡ take m (b ∷ t) → m ≤ 0
    longest zero h k f = omega arith
    longest (suc m) h k f = let e : a ≡ b = cc in absurd (d e)

pub longest-common : (s t : List ℕ) → Longest s t (common_of s t)
unfolding common_of
longest-common [] t = record { within = (omega arith, omega arith); common = refl; longest = λ m h k f. h }
longest-common (a ∷ s) [] = record { within = (omega arith, omega arith); common = refl; longest = λ m h k f. k }
longest-common (a ∷ s) (b ∷ t) = by (longest-common s t) (eqb a b) refl
  where
    by : Longest s t (common_of s t) → (q : Bool) → eqb a b ≡ q → Longest (a ∷ s) (b ∷ t) (cond q (suc (common_of s t)) 0)
    by r true e = alike a b s t (common_of s t) (eqb-true a b e) r
    by r false e = apart a b s t (eqb-false a b e)
