-- What on the way to a guess is a number.
use mathlib.Core.Bool.{Bool, true, false, not, cond}
use Prim.Native.Nat.{ℕ, zero, suc, ◌*◌}
use mathlib.Core.Path.{sym, subst}
use lib.Dec.{T, eqb, eqb-suc-zero}
use lib.Ieee.{Float, nan, inf, fin, binary32, unlike, up, down, round, neg, add, sub, div, is_nan}
use lib.Ieee.Exact.{HasValue}
use lib.Ieee.Scale.{finite}
use lib.Ieee.Positive.{positive}
use Rattle.order.specs.Units.{real}
use Rattle.order.proofs.Sums.{add-real, round-as}

pub real-number : (x : Float) → T (real x) → T (not (is_nan x))
unfolding is_nan
real-number nan h = absurd h
real-number (inf s) h = tt
real-number (fin s m e) h = tt

pub value-real : (x : Float) (s : Bool) (a c : ℕ) → HasValue x s a c → T (real x)
value-real nan s a c h = h
value-real (inf t) s a c h = tt
value-real (fin t m e) s a c h = tt

pub sum-real : (x y : Float) → T (real x) → T (finite y) → T (real (add binary32 x y))
sum-real nan y h k = absurd h
sum-real (inf s) nan h k = absurd k
sum-real (inf s) (inf t) h k = absurd k
sum-real (inf s) (fin t n d) h k = unfold add in tt
sum-real (fin s m e) y h k = add-real binary32 (fin s m e) y tt k

pub less-real : (x y : Float) → T (real x) → T (finite y) → T (real (sub binary32 x y))
unfolding sub neg
less-real x nan h k = absurd k
less-real x (inf t) h k = absurd k
less-real x (fin t n d) h k = sum-real x (fin (not t) n d) h tt

-- a quotient of a number above zero
pub quotient-real : (x y : Float) → T (positive x) → T (real y) → T (real (div binary32 x y))
unfolding div
quotient-real nan y p h = absurd p
quotient-real (inf s) y p h = absurd p
quotient-real (fin true m e) y p h = absurd p
quotient-real (fin false m e) nan p h = absurd h
quotient-real (fin false m e) (inf t) p h = tt
quotient-real (fin false zero e) (fin t n d) p h = absurd p
quotient-real (fin false (suc m) e) (fin t n d) p h =
    subst (λ (b : Bool). T (real (cond (eqb n 0) (cond b nan (inf (unlike false t))) (round binary32 (unlike false t) (suc m * up e * down d) (n * up d * down e))))) (sym (eqb-suc-zero m)) (go (eqb n 0))
  where
    go : (b : Bool) → T (real (cond b (inf (unlike false t)) (round binary32 (unlike false t) (suc m * up e * down d) (n * up d * down e))))
    go true = tt
    go false = (round-as binary32 (unlike false t) (suc m * up e * down d) (n * up d * down e)).2
