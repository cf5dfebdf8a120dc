-- Cells that hold a number of each of the first n elements of a list: one more store, and all of them.
use Prim.Native.Nat.{ℕ, zero, suc, ◌≤◌, ◌<◌}
use mathlib.Core.Path.{◌≡◌, refl, ap, sym}
use mathlib.Core.List.{List, [], ◌∷◌, ◌++◌, map}
use native.Mathlib.Omega.{arith}
use lib.ListN.{length, get_or, take, drop, set, length-append, length-map, length-take, length-drop}
use lib.Seq.{take-length}

module _ {A : Type 0} where
  pub head-drop : (n : ℕ) (l : List A) (d : A) → get_or (drop n l) 0 d ≡ get_or l n d
  head-drop zero l d = refl
  head-drop (suc n) [] d = refl
  head-drop (suc n) (x ∷ l) d = head-drop n l d

module _ {A B : Type 0} where
  abbrev pub sofar : (A → B) → List A → ℕ → List B → List B
  sofar f l n cells = map f (take n l) ++ drop n cells

  pub sofar-more : (f : A → B) (l : List A) (n : ℕ) (cells : List B) (x d : A) → n < length l → n < length cells
      → get_or l n d ≡ x → set (sofar f l n cells) n (f x) ≡ sofar f l (suc n) cells
  sofar-more f [] n cells x d h k e = absurd (omega arith)
  sofar-more f (y ∷ l) n [] x d h k e = absurd (omega arith)
  sofar-more f (y ∷ l) zero (c ∷ cells) x d h k e = ap (λ (z : A). f z ∷ cells) (sym e)
  sofar-more f (y ∷ l) (suc n) (c ∷ cells) x d h k e =
      ap (λ (r : List B). f y ∷ r) (sofar-more f l n cells x d (omega arith) (omega arith) e)

  pub sofar-all : (f : A → B) (l : List A) (n : ℕ) (cells : List B) → n ≡ length l
      → sofar f l n cells ≡ map f l ++ drop (length l) cells
  sofar-all f l n cells e = rw (e, take-length l)

  pub sofar-length : (f : A → B) (l : List A) (n : ℕ) (cells : List B) → n ≤ length l → n ≤ length cells
      → length (sofar f l n cells) ≡ length cells
  sofar-length f l n cells h k = simp (length-append, length-map, length-take, length-drop) (omega arith)
