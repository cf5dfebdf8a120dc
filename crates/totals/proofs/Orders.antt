-- The number of calls, the test of the prices and the sum each go along with every step of a permutation.
use mathlib.Core.Bool.{Bool, true, false, cond, ◌&&◌, Bool-set}
use mathlib.Core.List.{List, Permᴰ, reverse, reverse_perm}
use mathlib.Core.Logic.{∥∥₁_elim}
use mathlib.Core.Path.{◌≡◌, refl, ap, ◌∙◌}
use Prim.Native.Nat.{ℕ, suc, ◌≤◌}
use native.Mathlib.Nat.{ℕ_set}
use native.Mathlib.Omega.{arith}
use borrow.Author.Tests.{leb-true}
use lib.Dec.{leb}
use lib.ListN.{length}
use Rattle.std.specs.Prelude.{Ok, Err}
use Rattle.refusal.specs.declared.Refusal.{Refusal}
use Rattle.totals.specs.Total.{sum_of, prices_good, total_of}
use Rattle.totals.specs.Orders.{AnyOrder, NewestFirst, AtMost}
use Rattle.totals.proofs.Sums.{sum-most}

count-along : {ps qs : List ℕ} → Permᴰ ps qs → length ps ≡ length qs
count-along Permᴰ.nil = refl
count-along (Permᴰ.cons e d) = ap suc (count-along d)
count-along (Permᴰ.swap e f) = refl
count-along (Permᴰ.trans d f) = count-along d ∙ count-along f

sum-along : {ps qs : List ℕ} → Permᴰ ps qs → sum_of ps ≡ sum_of qs
unfolding sum_of
sum-along Permᴰ.nil = refl
sum-along (Permᴰ.cons e d) = omega (arith, e, sum-along d)
sum-along (Permᴰ.swap e f) = omega (arith, e, f)
sum-along (Permᴰ.trans d f) = sum-along d ∙ sum-along f

and-swap : (a b c : Bool) → (a && (b && c)) ≡ (b && (a && c))
and-swap true b c = refl
and-swap false true c = refl
and-swap false false c = refl

good-along : {ps qs : List ℕ} → Permᴰ ps qs → prices_good ps ≡ prices_good qs
unfolding prices_good
good-along Permᴰ.nil = refl
good-along (Permᴰ.cons e d) = rw (e, good-along d)
good-along (Permᴰ.swap {a' = a} {b' = b} {l = l} e f) = rw (e, f) (and-swap (leb b 14400000) (leb a 14400000) (prices_good l))
good-along (Permᴰ.trans d f) = good-along d ∙ good-along f

pub any_order : AnyOrder
unfolding total_of
any_order ps qs p =
    rw (∥∥₁_elim p (ℕ_set (length ps) (length qs)) count-along, ∥∥₁_elim p (Bool-set (prices_good ps) (prices_good qs)) good-along, ∥∥₁_elim p (ℕ_set (sum_of ps) (sum_of qs)) sum-along)

pub newest-first : NewestFirst
newest-first ps = any_order (reverse ps) ps (reverse_perm ps)

most-by : (ps : List ℕ) (few good : Bool) (n : ℕ) → leb (length ps) 256 ≡ few → prices_good ps ≡ good → cond (few && good) (Ok (sum_of ps)) (Err Refusal.Prices) ≡ Ok n → n ≤ 3686400000
most-by ps true true n f g e = let s : sum_of ps ≡ n = cc in omega (arith, leb-true (length ps) 256 f, sum-most ps g)
most-by ps true false n f g e = let z : ◌≡◌ {A = ℕ} 0 1 = cc in omega arith
most-by ps false good n f g e = let z : ◌≡◌ {A = ℕ} 0 1 = cc in omega arith

pub at_most : AtMost
unfolding total_of
at_most ps n e = most-by ps _ _ n refl refl e
