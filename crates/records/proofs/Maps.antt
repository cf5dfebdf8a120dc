-- An array's `map`, by a function each of whose calls gives what h gives, is `map h`.
use mathlib.Core.Path.{◌≡◌, sym, ◌∙◌}
use mathlib.Core.List.{List, map}
use Prim.Native.Nat.{ℕ, ◌<◌}
use denote.Param.Members.{Mut, Called}
use lib.ListN.{length, get_or, length-map}
use Rattle.std.specs.Array.{IsMapOf}
use Rattle.std.proofs.lemmas.List.{get_or-map, ext_get_or}

pub IsMapOf-map : {F A B : Type 0} (g : Mut F (A × Unit {0}) B) (h : A → B) {f : F} {xs : List A} {ys : List B} {n : ℕ} → A → B → ((x : A) (y : B) (p q : F) → Called g p (x, tt) y q → y ≡ h x) → length xs ≡ n → IsMapOf g f xs ys n → ys ≡ map h xs
IsMapOf-map {A = A} {B = B} g h {xs = xs} {ys = ys} {n = n} d e is l m = ext_get_or e ys (map h xs) (m.long ∙ sym l ∙ sym (length-map xs h)) each
  where
    each : (i : ℕ) → i < length ys → get_or ys i e ≡ get_or (map h xs) i e
    each i k =
        let short : i < n = rw (sym m.long) k in
        let c = m.at i d e short in
        is (get_or xs i d) (get_or ys i e) c.0 c.1 c.2 ∙ sym (get_or-map h xs i d e (rw l short))
