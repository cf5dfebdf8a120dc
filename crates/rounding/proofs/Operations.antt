-- Each operation on finite values is its exact result, rounded by roundTiesToEven: a sum, a difference, a product, a quotient, and the float of an integer of either sign. Assumes nothing.
use mathlib.Core.Path.{sym, subst}
use mathlib.Core.Bool.{Bool, true, false, not, ◌&&◌, beq, cond}
use Prim.Native.Nat.{ℕ, suc, ◌+◌, ◌-◌, ◌*◌}
use native.Mathlib.Nat.{mul-pos, zero-lt-suc}
use lib.IntN.{pos, negsuc}
use lib.Dec.{ltb}
use lib.Ieee.{Float, unlike, up, down, round, neg, add, sub, mul, div, of_int}
use lib.Ieee.Fits.{up_pos, down_pos}
use Rattle.rounding.specs.TiesToEven.{TiesToEven}
use Rattle.rounding.specs.Laws.{AddRounds, SubRounds, MulRounds, DivRounds, OfIntRounds}
use Rattle.rounding.proofs.TiesToEven.{round-ties-to-even}

pub add_rounds : AddRounds
unfolding add
add_rounds f s m e t n d = go (beq s t) (ltb a b)
  where
    a : ℕ
    a = m * up e * down d

    b : ℕ
    b = n * up d * down e

    c : ℕ
    c = down e * down d

    go : (x y : Bool) → TiesToEven f (cond x s (cond y t (s && ltb b a))) (cond x (a + b) (cond y (b - a) (a - b))) c (cond x (round f s (a + b) c) (cond y (round f t (b - a) c) (round f (s && ltb b a) (a - b) c)))
    go true y = round-ties-to-even f s (a + b) c (mul-pos (down_pos e) (down_pos d))
    go false true = round-ties-to-even f t (b - a) c (mul-pos (down_pos e) (down_pos d))
    go false false = round-ties-to-even f (s && ltb b a) (a - b) c (mul-pos (down_pos e) (down_pos d))

-- x - y is x + -y
pub sub-rounds : SubRounds
unfolding sub neg
sub-rounds f s m e t n d = add_rounds f s m e (not t) n d

pub mul-rounds : MulRounds
unfolding mul
mul-rounds f s m e t n d = round-ties-to-even f (unlike s t) (m * up e * (n * up d)) (down e * down d) (mul-pos (down_pos e) (down_pos d))

pub div-rounds : DivRounds
unfolding div
div-rounds f s m e t n d =
    subst (λ (b : Bool). TiesToEven f (unlike s t) (m * up e * down d) (suc n * up d * down e) (cond b (cond (lib.Dec.eqb m 0) Float.nan (Float.inf (unlike s t))) (round f (unlike s t) (m * up e * down d) (suc n * up d * down e)))) (sym (lib.Dec.eqb-suc-zero n))
    (round-ties-to-even f (unlike s t) (m * up e * down d) (suc n * up d * down e) (mul-pos (mul-pos (zero-lt-suc n) (up_pos d)) (down_pos e)))

-- an integer of either sign
pub of_int-rounds : OfIntRounds
unfolding of_int
of_int-rounds f (pos n) = round-ties-to-even f false n 1 (zero-lt-suc 0)
of_int-rounds f (negsuc n) = round-ties-to-even f true (suc n) 1 (zero-lt-suc 0)
