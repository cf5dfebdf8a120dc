use Prim.Native.Nat.{ℕ, zero, suc, ◌+◌, ◌<◌}
use mathlib.Core.Bool.{Bool, true, false}
use mathlib.Core.List.{List, [], ◌∷◌}
use mathlib.Core.Path.{◌≡◌, refl, sym}
use native.Mathlib.Numerals.{add-one}
use native.Mathlib.Omega.{arith}
use lib.ListN.{length, get_or}
use Rattle.std.proofs.Math.Bool.{and-false}
use Rattle.std.proofs.Common.{ltb, rules, tests}
use Rattle.std.proofs.lemmas.List.Sorted.{answers_always}
use Rattle.std.specs.List.{IsAllAdjacentAnswer}
use Rattle.traces.specs.Trace.{rises as rises_of}
use Rattle.traces.proofs.rises.Goals as goal

all : (l : List ℕ) → ((i : ℕ) → suc i < length l → ltb (get_or l i 0) (get_or l (suc i) 0) ≡ true) → rises_of l ≡ true
unfolding rises_of
all [] f = refl
all (x ∷ []) f = refl
all (x ∷ y ∷ l) f = rw (f 0 (omega arith)) (all (y ∷ l) (λ i h. f (suc i) (omega arith)))

one-not : (l : List ℕ) (i : ℕ) → suc i < length l → ltb (get_or l i 0) (get_or l (suc i) 0) ≡ false → rises_of l ≡ false
unfolding rises_of
one-not [] i h t = absurd (omega arith)
one-not (x ∷ []) i h t = absurd (omega arith)
one-not (x ∷ y ∷ l) zero h t = rw t
one-not (x ∷ y ∷ l) (suc i) h t = rw (one-not (y ∷ l) i (omega arith) t, and-false)

by-steps : (l : List ℕ) (r : Bool) → IsAllAdjacentAnswer (λ x y b. b ≡ ltb x y) l r → r ≡ rises_of l
by-steps l true h =
    sym
    (all l (λ i k. let t : ltb (get_or l i 0) (get_or l (i + 1) 0) ≡ true = sym (h i 0 (omega arith)) in rw (add-one i) at t))
by-steps l false h =
    let t : ltb (get_or l h.0 0) (get_or l (h.0 + 1) 0) ≡ false = sym (h.2 0) in
    sym (one-not l h.0 (let k = h.1 in omega arith) (rw (add-one h.0) at t))

pub returns : goal.returns
returns c =
    by-steps c.args.khz.now c.is_sorted_by.result
    (c.is_sorted_by.ensures.cases ltb (answers_always _ _ _ (λ f a r g k. search (rules, tests))))
