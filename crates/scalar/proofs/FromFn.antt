-- Of an array made by index: what each item is.
use mathlib.Core.Path.{◌≡◌, refl, sym, ◌∙◌, subst}
use mathlib.Core.Logic.{inl, inr}
use mathlib.Core.List.{List, [], ◌∷◌, map}
use Prim.Native.Nat.{ℕ, zero, suc, ◌+◌, ◌≤◌, ◌<◌}
use native.Mathlib.Nat.{eq-or-lt_of_le}
use native.Mathlib.Omega.{arith}
use denote.Param.Members.{Mut, Called}
use lib.ListN.{length, get_or, length-map}
use Rattle.std.specs.List.{range_with_len}
use Rattle.std.specs.Array.{IsFromFnResult, IsFromFnResultFrom}
use Rattle.std.proofs.lemmas.List.{get_or-map, ext_get_or}
use Rattle.std.proofs.lemmas.List.FromFn.{fill_by_all}

module _ {F B : Type 0} (R : ℕ → B → Type 0) {g : Mut F (ℕ × Unit {0}) B} {f : F} {n : ℕ} (is : (k : ℕ) (y : B) (q : F) → k < n → Called g f (k, tt) y q → R k y × (q ≡ f)) where
  from : (ys : List B) (i m : ℕ) → i + m ≤ n → IsFromFnResultFrom g f ys i m → (d : B) (k : ℕ) → i ≤ k → k < i + m → R k (get_or ys k d)
  from ys i zero l r d k a b = absurd (omega arith)
  from ys i (suc m) l r d k a b =
      let e = is i r.1 r.0 (omega arith) r.3 in
      elim (eq-or-lt_of_le a) [
        | inl s ↦ subst (λ j. R j (get_or ys j d)) s (subst (R i) (sym (r.2.1 d)) e.0)
        | inr t ↦ from ys (i + 1) m (omega arith) (subst (λ p. IsFromFnResultFrom g p ys (i + 1) m) e.1 r.4) d k (omega arith) (omega arith)
      ]

  -- what holds of what each call gives, where it leaves the function as it is
  pub from_fn_each : {ys : List B} → IsFromFnResult g f ys n → (d : B) (k : ℕ) → k < n → R k (get_or ys k d)
  from_fn_each {ys} r d k l = from ys 0 n (omega arith) r.each d k (omega arith) (omega arith)

-- where each call gives what h makes of a list's item
pub from_fn_map : {F A B : Type 0} (h : A → B) (xs : List A) (d : A) → B → {g : Mut F (ℕ × Unit {0}) B} {f : F} {n : ℕ} → length xs ≡ n → ((k : ℕ) (y : B) (q : F) → k < n → Called g f (k, tt) y q → (y ≡ h (get_or xs k d)) × (q ≡ f)) → {ys : List B} → IsFromFnResult g f ys n → ys ≡ map h xs
from_fn_map {B = B} h xs d e {n = n} l is {ys} r =
    ext_get_or e ys (map h xs)
    (r.long ∙ sym l ∙ sym (length-map xs h))
    (λ k b. let m = subst (λ (z : ℕ). k < z) r.long b in from_fn_each (λ k y. y ≡ h (get_or xs k d)) is r e k m ∙ sym (get_or-map h xs k d e (subst (λ (z : ℕ). k < z) (sym l) m)))

none : {B : Type 0} (ys : List B) → length ys ≡ 0 → ys ≡ []
none [] e = refl
none (y ∷ ys) e = absurd (omega (arith, e))

-- where each call gives what h makes of its number
pub from_fn_numbers : {F B : Type 0} (h : ℕ → B) (n : ℕ) {g : Mut F (ℕ × Unit {0}) B} {f : F} → ((k : ℕ) (y : B) (q : F) → k < n → Called g f (k, tt) y q → (y ≡ h k) × (q ≡ f)) → {ys : List B} → IsFromFnResult g f ys n → ys ≡ map h (range_with_len 0 n)
from_fn_numbers h zero is {ys} r = none ys r.long
from_fn_numbers h (suc n) is {ys} r = fill_by_all h ys (suc n) r.each.1 r.long (from_fn_each (λ k y. y ≡ h k) is r r.each.1)
