-- A list that rises has each number below all later ones. So a kHz is put in the one place where the list still rises, and the
-- kHz of two traces that begin with x and y begin with the smaller.
use Prim.Native.Nat.{ℕ, zero, suc, ◌≤◌, ◌<◌}
use mathlib.Core.Path.{◌≡◌, refl}
use mathlib.Core.Bool.{Bool, true, false, cond}
use mathlib.Core.List.{List, [], ◌∷◌}
use native.Mathlib.Omega.{arith}
use lib.Dec.{eqb, ltb}
use lib.ListN.{drop}
use borrow.Author.Tests.{ltb-true, ltb-false, eqb-false, lt-ltb, le-ltb, eq-eqb, ne_eqb}
use Rattle.traces.specs.Trace.{rises}
use Rattle.traces.specs.Lines.{put, listed}
use Rattle.std.proofs.lemmas.Bool.{and_parts}

abbrev pub Above : ℕ → List ℕ → Type 0
Above z [] = Unit
Above z (x ∷ l) = (z < x) × Above z l

abbrev pub Up : List ℕ → Type 0
Up [] = Unit
Up (x ∷ l) = Above x l × Up l

pub above-less : (y z : ℕ) (l : List ℕ) → z ≤ y → Above y l → Above z l
above-less y z [] h a = tt
above-less y z (x ∷ l) h a = let k : y < x = a.0 in (omega arith, above-less y z l h a.1)

pub up : (l : List ℕ) → rises l ≡ true → Up l
unfolding rises
up [] e = tt
up (x ∷ []) e = (tt, tt)
up (x ∷ (y ∷ l)) e =
    let b = and_parts (ltb x y) (rises (y ∷ l)) e in
    let h : x < y = ltb-true x y b.0 in
    let u : Up (y ∷ l) = up (y ∷ l) b.1 in
    ((h, above-less y x l (omega arith) u.0), u)

pub up-rises : (l : List ℕ) → Up l → rises l ≡ true
unfolding rises
up-rises [] u = refl
up-rises (x ∷ []) u = refl
up-rises (x ∷ (y ∷ l)) u = let h : x < y = u.0.0 in rw (lt-ltb x y h) (up-rises (y ∷ l) u.1)

pub up-drop : (i : ℕ) (l : List ℕ) → Up l → Up (drop i l)
up-drop zero l u = u
up-drop (suc i) [] u = tt
up-drop (suc i) (x ∷ l) u = up-drop i l u.1

pub put-below : (f : ℕ) (l : List ℕ) → Above f l → put f l ≡ f ∷ l
unfolding put
put-below f [] a = refl
put-below f (x ∷ l) a = rw (lt-ltb f x a.0)

pub put-later : (f x : ℕ) (l : List ℕ) → x < f → put f (x ∷ l) ≡ x ∷ put f l
unfolding put
put-later f x l h =
    let n : f ≡ x → ⊥ = λ e. omega arith in
    rw (le-ltb f x (omega arith), ne_eqb f x n)

pub put_same : (f : ℕ) (l : List ℕ) → put f (f ∷ l) ≡ f ∷ l
unfolding put
put_same f l = rw (le-ltb f f (omega arith), eq-eqb f f refl)

put-above : (z f : ℕ) (l : List ℕ) → z < f → Above z l → Above z (put f l)
unfolding put
put-above z f [] h a = (h, tt)
put-above z f (x ∷ l) h a = by (put-above z f l h a.1) (ltb f x) (eqb f x)
  where
    by : Above z (put f l) → (s t : Bool) → Above z (cond s (f ∷ x ∷ l) (cond t (x ∷ l) (x ∷ put f l)))
    by r true t = (h, a)
    by r false true = a
    by r false false = (a.0, r)

put_up : (f : ℕ) (l : List ℕ) → Up l → Up (put f l)
unfolding put
put_up f [] u = (tt, tt)
put_up f (x ∷ l) u = by (put_up f l u.1) (ltb f x) (eqb f x) refl refl
  where
    by : Up (put f l) → (s t : Bool) → ltb f x ≡ s → eqb f x ≡ t → Up (cond s (f ∷ x ∷ l) (cond t (x ∷ l) (x ∷ put f l)))
    by r true t p q = let h : f < x = ltb-true f x p in ((h, above-less x f l (omega arith) u.0), u)
    by r false true p q = u
    by r false false p q =
        let h : x ≤ f = ltb-false f x p in
        let n : f ≡ x → ⊥ = eqb-false f x q in
        (put-above x f l (omega arith) u.0, r)

pub listed_above : (z : ℕ) (xs ys : List ℕ) → Above z xs → Above z ys → Above z (listed xs ys)
unfolding listed
listed_above z xs [] a b = a
listed_above z xs (y ∷ ys) a b = put-above z y (listed xs ys) b.0 (listed_above z xs ys a b.1)

pub listed-up : (xs ys : List ℕ) → Up xs → Up (listed xs ys)
unfolding listed
listed-up xs [] u = u
listed-up xs (y ∷ ys) u = put_up y (listed xs ys) (listed-up xs ys u)

pub listed-first : (x : ℕ) (xs ys : List ℕ) → Above x ys → listed (x ∷ xs) ys ≡ x ∷ listed xs ys
unfolding listed
listed-first x xs [] a = refl
listed-first x xs (y ∷ ys) a = rw (listed-first x xs ys a.1) (put-later y x (listed xs ys) a.0)

pub listed-second : (y : ℕ) (xs ys : List ℕ) → Above y xs → Above y ys → listed xs (y ∷ ys) ≡ y ∷ listed xs ys
unfolding listed
listed-second y xs ys a b = put-below y (listed xs ys) (listed_above y xs ys a b)

pub listed-both : (x : ℕ) (xs ys : List ℕ) → Above x ys → listed (x ∷ xs) (x ∷ ys) ≡ x ∷ listed xs ys
unfolding listed
listed-both x xs ys a = rw (listed-first x xs ys a) (put_same x (listed xs ys))
