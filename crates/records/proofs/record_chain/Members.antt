-- Lists of records met, and arrays filled part by part.
use Prim.Native.Nat.{ℕ, ◌+◌, ◌-◌, ◌≤◌}
use mathlib.Core.Path.{◌≡◌, refl}
use mathlib.Core.List.{List, [], ◌∷◌, ◌++◌, append_assoc}
use native.Mathlib.Omega.{arith}
use lib.ListN.{length, take, drop, length-append, replicate, length-replicate}
use lib.Seq.{take_at, drop_at}
use lib.Dec.{eqb}
use Rattle.std.specs.List.{list_any}
use Rattle.records.specs.Chain.{member, padded}
use Rattle.std.proofs.lemmas.List.{drop-replicate}
use native.Mathlib.Nat.{add-sub_cancel_left}

eqb-comm : (a b : ℕ) → eqb a b ≡ eqb b a
eqb-comm a b = grind arith

-- looked for from the left, as the slice's method does
pub any_member : (n : ℕ) (l : List ℕ) → list_any (λ (m : ℕ). eqb m n) l ≡ member n l
unfolding member
any_member n [] = refl
any_member n (m ∷ l) = rw (eqb-comm m n, any_member n l)

pub length-padded : (N : ℕ) (ns : List ℕ) → length ns ≤ N → length (padded N ns) ≡ N
length-padded N ns h = simp (length-append, length-replicate) (omega arith)

-- a part of an array of N filled after the part before it
pub placed : (N w a : ℕ) (xs ns ys : List ℕ) → xs ≡ padded N ns → length ns ≡ a → length ys ≡ w → a + w ≤ N
    → take a xs ++ (ys ++ drop (a + w - a) (drop a xs)) ≡ padded N (ns ++ ys)
placed N w a xs ns ys e l m h =
    let q : N - length ns - w ≡ N - length (ns ++ ys) = simp length-append (omega arith) in
    rw (
      add-sub_cancel_left a w,
      e,
      take_at ns (replicate (N - length ns) 0) a l,
      drop_at ns (replicate (N - length ns) 0) a l,
      drop-replicate {X = ℕ} w (N - length ns) 0,
      q,
      append_assoc,
    )
