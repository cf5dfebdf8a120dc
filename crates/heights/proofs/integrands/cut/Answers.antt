-- Either side of the test is the minimum: what is at most 0.9999 is no NaN and not above it, and a NaN is dropped. Assumes nothing.
use mathlib.Core.Path.{◌≡◌, refl}
use mathlib.Core.Bool.{Bool, true, false, not, ◌||◌}
use lib.Dec.{T, not_T}
use lib.Ieee.{Float, lt, le, is_nan, of_bits}
use lib.Ieee.Bits.{is_true, is_false}
use Rattle.std.proofs.lemmas.Float.{T_from_true, T_from_false, le_left, lt_irrefl, lt_of_le_of_lt, lt_of_not-le}
use Rattle.scalar.specs.Scalar.{or_second, min_of}
use Rattle.heights.proofs.integrands.cut.Goals as goal

kept : (x b : Float) → le x b ≡ true → x ≡ min_of x b
unfolding min_of or_second
kept x b e =
    let h = T_from_true (le x b) e in
    rw (is_false (is_nan x) (le_left x b h), is_false (lt b x) (not_T (lt b x) (λ t. lt_irrefl x (lt_of_le_of_lt x b x h t))))

dropped : (x b : Float) → T (not (is_nan b)) → le x b ≡ false → b ≡ min_of x b
unfolding min_of or_second
dropped x b n e = go (is_nan x) refl
  where
    go : (t : Bool) → is_nan x ≡ t → b ≡ or_second (is_nan x || lt b x) x b
    go true i = rw i
    go false i = rw (i, is_true (lt b x) (lt_of_not-le x b (T_from_false (is_nan x) i) n (T_from_false (le x b) e)))

pub returns-else-x : goal.returns-else-x
unfolding of_bits is_nan le
returns-else-x c = (dropped c.args.x _ tt c.if-x.false, tt)

pub returns-then-x : goal.returns-then-x
returns-then-x c = (kept c.args.x _ c.if-x.true, T_from_true _ c.if-x.true)
