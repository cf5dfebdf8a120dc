-- The square of the cosine is from a millionth to 1.
use mathlib.Core.Path.{◌≡◌, refl, sym, subst}
use mathlib.Core.Bool.{Bool, true, false, not, ◌||◌}
use Prim.Native.Nat.{ℕ, ◌+◌, ◌-◌, ◌*◌, ◌≤◌}
use native.Mathlib.Nat.{le_trans, le_of_eq, le_refl, le-add_right, add-le-add}
use native.Mathlib.Omega.{arith}
use lib.Dec.{T, not_T}
use lib.Ieee.{Float, nan, inf, fin, binary32, up, down, neg, add, sub, mul, lt, le, is_nan, of_bits, fits, size}
use lib.Ieee.Bits.{is_true, is_false, of_bits-fits}
use lib.Ieee.Fits.{sub-fits, mul-fits}
use lib.Ieee.Scale.{overflow, finite}
use Rattle.std.proofs.lemmas.Bool.{or_right}
use Rattle.scalar.specs.F32.{◌-f◌, ◌*f◌, ◌≤f◌}
use Rattle.scalar.specs.Literals.{f0_000001, f1}
use Rattle.scalar.specs.Scalar.{or_second, max_of}
use Rattle.order.specs.Units.{real, sgn, mag, key, total}
use Rattle.order.proofs.Keys.{mag-le}
use Rattle.order.proofs.Sums.{round-as, total_mono, sub-key}
use Rattle.order.proofs.Tests.{keys→le, le-real, not-le-lt}
use Rattle.std.proofs.lemmas.Float.{lt_irrefl, lt_of_lt_of_le}
use Rattle.reflectrix.specs.Cell.{sqcos_of}

-- ---- a square has no sign
pub square-sign : (x : Float) → sgn (mul binary32 x x) ≡ false
unfolding mul
square-sign nan = refl
square-sign (inf true) = refl
square-sign (inf false) = refl
square-sign (fin true m e) = (round-as binary32 false (m * up e * (m * up e)) (down e * down e)).1
square-sign (fin false m e) = (round-as binary32 false (m * up e * (m * up e)) (down e * down e)).1

-- ---- 1 less what has no sign is at most 1
one-fits : T (fits binary32 f1)
one-fits = of_bits-fits binary32 0x3f800000

one-real : T (real f1)
unfolding of_bits
one-real = tt

one-finite : T (finite f1)
unfolding of_bits
one-finite = tt

one_kept : total binary32 (key binary32 f1 + overflow binary32) ≡ key binary32 f1
unfolding of_bits total mag size
one_kept = refl

less-nothing : (k K C : ℕ) → C ≤ K → K ≤ C + C → k + (C + C - K) ≤ k + C
less-nothing k K C h g = omega arith

from_one : (y : Float) → sgn y ≡ false → T (fits binary32 y) → T (real (sub binary32 f1 y)) → T (le (sub binary32 f1 y) f1)
from_one nan e f r = absurd (unfold sub add neg of_bits in r)
from_one (inf true) e f r = absurd (mathlib.Core.Bool.true≢false e)
from_one (inf false) e f r = unfold sub add neg of_bits le in tt
from_one (fin true m d) e f r = absurd (mathlib.Core.Bool.true≢false e)
from_one (fin false m d) e f r =
    let y = fin false m d in
    keys→le binary32 (sub binary32 f1 y) f1 (sub-fits binary32 f1 y) one-fits r one-real
    (le_trans (le_of_eq (sub-key binary32 f1 y one-fits f one-finite tt))
    (le_trans (total_mono binary32 (key binary32 f1 + (overflow binary32 + overflow binary32 - key binary32 y)) (key binary32 f1 + overflow binary32)
    (less-nothing (key binary32 f1) (key binary32 y) (overflow binary32) (le-add_right (overflow binary32) (mag binary32 y)) (add-le-add (le_refl (overflow binary32)) (mag-le binary32 y f)))) (le_of_eq one_kept)))

-- ---- the maximum with a millionth, by one test
small-fits : T (fits binary32 f0_000001)
small-fits = of_bits-fits binary32 0x358637bd

small-real : T (real f0_000001)
unfolding of_bits
small-real = tt

second : (d : Float) → T (fits binary32 d) → le f0_000001 d ≡ false → (is_nan d || lt d f0_000001) ≡ true
second d f h = go d refl
  where
    less : T (real d) → lt d f0_000001 ≡ true
    less r = is_true (lt d f0_000001) (not-le-lt binary32 f0_000001 d small-fits f small-real r (subst (λ (b : Bool). T (not b)) (sym h) tt))

    go : (z : Float) → d ≡ z → (is_nan d || lt d f0_000001) ≡ true
    go nan e = rw e (unfold is_nan in refl)
    go (inf s) e = or_right (is_nan d) (lt d f0_000001) (less (subst (λ (z : Float). T (real z)) (sym e) tt))
    go (fin s m x) e = or_right (is_nan d) (lt d f0_000001) (less (subst (λ (z : Float). T (real z)) (sym e) tt))

first : (d : Float) → T (fits binary32 d) → le f0_000001 d ≡ true → (is_nan d || lt d f0_000001) ≡ false
first d f h = go d refl (le-real f0_000001 d t).1
  where
    t : T (le f0_000001 d)
    t = subst T (sym h) tt

    less : lt d f0_000001 ≡ false
    less = is_false (lt d f0_000001) (not_T (lt d f0_000001) (λ l. lt_irrefl d (lt_of_lt_of_le d f0_000001 d l t)))

    go : (z : Float) → d ≡ z → T (real d) → (is_nan d || lt d f0_000001) ≡ false
    go nan e r = absurd (subst (λ (z : Float). T (real z)) e r)
    go (inf s) e r = rw (e) (unfold is_nan in subst (λ (z : Float). lt z f0_000001 ≡ false) e less)
    go (fin s m x) e r = rw (e) (unfold is_nan in subst (λ (z : Float). lt z f0_000001 ≡ false) e less)

pub above : (d : Float) → T (fits binary32 d) → (f0_000001 ≤f d) ≡ true → d ≡ max_of d f0_000001
unfolding max_of or_second
above d f h = rw (first d f h) refl

pub below : (d : Float) → T (fits binary32 d) → (f0_000001 ≤f d) ≡ false → f0_000001 ≡ max_of d f0_000001
unfolding max_of or_second
below d f h = rw (second d f h) refl

abbrev pub Cosine : Float → Float → Type 0
Cosine sphe r = (r ≡ sqcos_of sphe) × T (f0_000001 ≤f r) × T (r ≤f f1)

kept : (sphe : Float) → (f0_000001 ≤f (f1 -f sphe *f sphe)) ≡ true → Cosine sphe (f1 -f sphe *f sphe)
unfolding sqcos_of max_of or_second
kept sphe h =
    let d = f1 -f sphe *f sphe in
    let t : T (le f0_000001 d) = subst T (sym h) tt in
    (rw (first d (sub-fits binary32 f1 (sphe *f sphe)) h), t, from_one (sphe *f sphe) (square-sign sphe) (mul-fits binary32 sphe sphe) (le-real f0_000001 d t).1)

floored : (sphe : Float) → (f0_000001 ≤f (f1 -f sphe *f sphe)) ≡ false → Cosine sphe f0_000001
unfolding sqcos_of max_of or_second
floored sphe h = (rw (second (f1 -f sphe *f sphe) (sub-fits binary32 f1 (sphe *f sphe)) h), unfold le of_bits in tt, unfold le of_bits in tt)

-- the answer of either side of that test is the maximum
by_test : (sphe : Float) (b : Bool) → (f0_000001 ≤f (f1 -f sphe *f sphe)) ≡ b → Cosine sphe (sqcos_of sphe)
by_test sphe true h = let k = kept sphe h in subst (Cosine sphe) k.0 k
by_test sphe false h = let k = floored sphe h in subst (Cosine sphe) k.0 k

pub squared : (sphe : Float) → Cosine sphe (sqcos_of sphe)
squared sphe = by_test sphe _ refl

either-fits : (b : Bool) (x y : Float) → T (fits binary32 x) → T (fits binary32 y) → T (fits binary32 (or_second b x y))
unfolding or_second
either-fits true x y f g = g
either-fits false x y f g = f

pub squared-fits : (sphe : Float) → T (fits binary32 (sqcos_of sphe))
unfolding sqcos_of max_of
squared-fits sphe = let d = f1 -f sphe *f sphe in either-fits (is_nan d || lt d f0_000001) d f0_000001 (sub-fits binary32 f1 (sphe *f sphe)) small-fits
