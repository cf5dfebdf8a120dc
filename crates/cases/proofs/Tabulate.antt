-- A loop that fills a list place by place with f of the same place of another makes `map f`: after n turns the first n places are done.
use mathlib.Core.Path.{◌≡◌, refl, ap}
use mathlib.Core.List.{List, [], ◌∷◌, map}
use Prim.Native.Nat.{ℕ, zero, suc, ◌<◌}
use native.Mathlib.Nat.{le_of_suc-le-suc, not-suc-le-zero}
use native.Mathlib.Omega.{arith}
use lib.ListN.{length, get_or, set}

module _ {A B : Type 0} (f : A → B) (d : A) where
  -- the first n places by f of hs, the rest as in l
  abbrev pub mapped : List A → List B → ℕ → List B
  mapped hs l zero = l
  mapped [] l (suc n) = l
  mapped (x ∷ hs) [] (suc n) = []
  mapped (x ∷ hs) (y ∷ l) (suc n) = f x ∷ mapped hs l n

  pub mapped-more : (hs : List A) (l : List B) (i : ℕ) → i < length hs → set (mapped hs l i) i (f (get_or hs i d)) ≡ mapped hs l (suc i)
  mapped-more [] l i h = absurd (not-suc-le-zero h)
  mapped-more (x ∷ hs) [] zero h = refl
  mapped-more (x ∷ hs) (y ∷ l) zero h = refl
  mapped-more (x ∷ hs) [] (suc i) h = refl
  mapped-more (x ∷ hs) (y ∷ l) (suc i) h = ap (λ (t : List B). f x ∷ t) (mapped-more hs l i (le_of_suc-le-suc h))

  pub mapped-all : (hs : List A) (l : List B) → length l ≡ length hs → mapped hs l (length hs) ≡ map f hs
  mapped-all [] [] e = refl
  mapped-all [] (y ∷ l) e = absurd (omega arith)
  mapped-all (x ∷ hs) [] e = absurd (omega arith)
  mapped-all (x ∷ hs) (y ∷ l) e = ap (λ (t : List B). f x ∷ t) (mapped-all hs l (omega arith))

-- a list of which the places before i are changed is at i as it was
pub untouched : {A : Type 0} (f : A → A) (d : A) (l : List A) (i : ℕ) → get_or (mapped f d l l i) i d ≡ get_or l i d
untouched f d l zero = refl
untouched f d [] (suc i) = refl
untouched f d (x ∷ l) (suc i) = untouched f d l i
