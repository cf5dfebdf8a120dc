-- A row copied into its place of a table is its three numbers stored one after the other.
use Prim.Native.Nat.{ℕ, suc, ◌+◌, ◌-◌, ◌≤◌}
use mathlib.Core.Path.{◌≡◌, refl, sym, ap, ◌∙◌}
use mathlib.Core.List.{List, [], ◌∷◌, ◌++◌}
use native.Mathlib.Omega.{arith}
use native.Mathlib.Nat.{add-sub_cancel_left}
use lib.ListN.{length, get_or, take, drop, set}
use lib.Seq.{drop-cons, length-take-le}
use borrow.Rule.Slice.PartMut.{put_mid}
use Rattle.std.proofs.lemmas.List.{take-append-drop}

after : {A : Type 0} (p q : List A) (a b c x y z : A)
    → set (set (set (p ++ a ∷ b ∷ c ∷ q) (length p) x) (length p + 1) y) (length p + 2) z ≡ p ++ x ∷ y ∷ z ∷ q
after [] q a b c x y z = refl
after (h ∷ p) q a b c x y z =
    let n = length p in
    let e : suc n + 1 ≡ suc (n + 1) = omega arith in
    let f : suc n + 2 ≡ suc (n + 2) = omega arith in
    rw (e, f, after p q a b c x y z)

by_row : {A : Type 0} (row p q : List A) (a b c d : A) → length row ≡ 3
    → p ++ (row ++ q)
    ≡ set (set (set (p ++ a ∷ b ∷ c ∷ q) (length p) (get_or row 0 d)) (length p + 1) (get_or row 1 d)) (length p + 2) (get_or row 2 d)
by_row (x ∷ y ∷ z ∷ []) p q a b c d e = sym (after p q a b c x y z)
by_row (x ∷ y ∷ z ∷ w ∷ row) p q a b c d e = absurd (omega arith)
by_row (x ∷ y ∷ []) p q a b c d e = absurd (omega arith)
by_row (x ∷ []) p q a b c d e = absurd (omega arith)
by_row [] p q a b c d e = absurd (omega arith)

stored : {A : Type 0} (t p q row : List A) (a b c d : A) (n : ℕ) → t ≡ p ++ a ∷ b ∷ c ∷ q → length p ≡ n → length row ≡ 3
    → p ++ (row ++ q) ≡ set (set (set t n (get_or row 0 d)) (n + 1) (get_or row 1 d)) (n + 2) (get_or row 2 d)
stored t p q row a b c d n e k r = rw (e, ← k) (by_row row p q a b c d r)

pub row_stored : {A : Type 0} (t row : List A) (d : A) (n : ℕ) → n + 3 ≤ length t → length row ≡ 3
    → put_mid n (n + 3 - n) t row ≡ set (set (set t n (get_or row 0 d)) (n + 1) (get_or row 1 d)) (n + 2) (get_or row 2 d)
row_stored t row d n h r =
    let q = drop (suc (suc (suc n))) t in
    let e : drop n t ≡ get_or t n d ∷ get_or t (suc n) d ∷ get_or t (suc (suc n)) d ∷ q
    = drop-cons t n d (omega arith)
    ∙ ap (λ l. get_or t n d ∷ l) (drop-cons t (suc n) d (omega arith) ∙ ap (λ l. get_or t (suc n) d ∷ l) (drop-cons t (suc (suc n)) d (omega arith)))
    in
    rw (add-sub_cancel_left n 3, e) (stored t (take n t) q row _ _ _ d n (sym (take-append-drop n t) ∙ ap (λ l. take n t ++ l) e) (length-take-le n t (omega arith)) r)
