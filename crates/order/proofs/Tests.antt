-- A difference against zero is a comparison of its operands, for every two values that the format holds, infinities and NaN included where the statement does not except them. `add` keeps the order.
use mathlib.Core.Path.{◌≡◌, refl, sym, ◌∙◌, subst}
use Prim.Native.Nat.{ℕ, ◌+◌, ◌-◌, ◌^◌, ◌≤◌, ◌<◌}
use native.Mathlib.Nat.{le_of_suc-le-suc, lt_of_not-le, not-le_of_lt, zero-mul}
use native.Mathlib.Omega.{arith}
use mathlib.Core.Bool.{Bool, true, false, not, ◌&&◌, beq, and-true}
use lib.IntN.{pos}
use lib.Dec.{T, leb, ltb, leb→le, le→leb, nleb→lt, ltb→lt, lt→ltb}
use lib.Ieee.{Float, nan, inf, fin, Format, binary32, low, lt, le, fits, sub, of_bits}
use lib.Ieee.Fits.{sub-fits}
use lib.Ieee.Scale.{overflow, finite}
use Rattle.order.specs.Units.{real, key_of, sgn, mag, key, nought}
use Rattle.order.proofs.Keys.{same_test, lt-key, le-key, mag_of, mag-le}
use Rattle.order.proofs.Sums.{total-below, total-above, total-from, total-upto, sub-key, sub-real, finite-real}

-- ---- zero
-- scalar has it too, and neither stands on the other
pub nought-is : of_bits binary32 0 ≡ nought
unfolding of_bits
nought-is = refl

pub nought-fits : (f : Format) → T (fits f nought)
unfolding fits
nought-fits f = tt

no_more : (C u : ℕ) → u ≡ 0 → C + u ≡ C
no_more C u e = omega arith

pub nought-key : (f : Format) → key f nought ≡ overflow f
nought-key f = no_more (overflow f) (mag f nought) (mag_of f false 0 (pos 0) 0 (zero-mul (2 ^ low f)))

pub key-le : (f : Format) (x : Float) → T (fits f x) → key f x ≤ overflow f + overflow f
key-le f x p = go (overflow f) (sgn x) (mag f x) (mag-le f x p)
  where
    go : (C : ℕ) (s : Bool) (u : ℕ) → u ≤ C → key_of C s u ≤ C + C
    go C true u h = omega arith
    go C false u h = omega arith

-- ---- the order, from keys and to keys
pub le→keys : (f : Format) (x y : Float) → T (fits f x) → T (fits f y) → T (real x) → T (real y) → T (le x y) → key f x ≤ key f y
le→keys f x y p q a b h = leb→le (key f x) (key f y) (subst (λ (z : Bool). T z) (le-key f x y p q a b) h)

pub keys→le : (f : Format) (x y : Float) → T (fits f x) → T (fits f y) → T (real x) → T (real y) → key f x ≤ key f y → T (le x y)
keys→le f x y p q a b h = subst (λ (z : Bool). T z) (sym (le-key f x y p q a b)) (le→leb (key f x) (key f y) h)

pub lt→keys : (f : Format) (x y : Float) → T (fits f x) → T (fits f y) → T (real x) → T (real y) → T (lt x y) → key f x < key f y
lt→keys f x y p q a b h = ltb→lt (key f x) (key f y) (subst (λ (z : Bool). T z) (lt-key f x y p q a b) h)

pub keys→lt : (f : Format) (x y : Float) → T (fits f x) → T (fits f y) → T (real x) → T (real y) → key f x < key f y → T (lt x y)
keys→lt f x y p q a b h = subst (λ (z : Bool). T z) (sym (lt-key f x y p q a b)) (lt→ltb (key f x) (key f y) h)

pub not-le-lt : (f : Format) (x y : Float) → T (fits f x) → T (fits f y) → T (real x) → T (real y) → T (not (le x y)) → T (lt y x)
not-le-lt f x y p q a b h = keys→lt f y x q p b a (nleb→lt (key f x) (key f y) (subst (λ (z : Bool). T (not z)) (le-key f x y p q a b) h))

-- a passed test has no NaN on either side
pub lt-real : (x y : Float) → T (lt x y) → T (real x) × T (real y)
unfolding lt
lt-real nan y h = absurd h
lt-real (inf s) nan h = absurd h
lt-real (inf s) (inf t) h = (tt, tt)
lt-real (inf s) (fin t n d) h = (tt, tt)
lt-real (fin s m e) nan h = absurd h
lt-real (fin s m e) (inf t) h = (tt, tt)
lt-real (fin s m e) (fin t n d) h = (tt, tt)

pub le-real : (x y : Float) → T (le x y) → T (real x) × T (real y)
unfolding le
le-real nan y h = absurd h
le-real (inf s) nan h = absurd h
le-real (inf s) (inf t) h = (tt, tt)
le-real (inf s) (fin t n d) h = (tt, tt)
le-real (fin s m e) nan h = absurd h
le-real (fin s m e) (inf t) h = (tt, tt)
le-real (fin s m e) (fin t n d) h = (tt, tt)

-- ---- n is the sum of x's key and of -y's
d1 : (K x y : ℕ) → y ≤ K → x < y → x + (K - y) < K
d1 K x y p h = omega arith

d2 : (K x y : ℕ) → y ≤ K → y < x → K < x + (K - y)
d2 K x y p h = omega arith

d3 : (K x y : ℕ) → y ≤ K → x ≤ y → x + (K - y) ≤ K
d3 K x y p h = omega arith

d4 : (K x y : ℕ) → y ≤ K → y ≤ x → K ≤ x + (K - y)
d4 K x y p h = omega arith

record Versus (C d x y : ℕ) : Type 0 where
  pub less : x < y → d < C
  pub more : y < x → C < d
  pub upto : x ≤ y → d ≤ C
  pub from : y ≤ x → C ≤ d

versus : (f : Format) (x y : Float) → T (fits f x) → T (fits f y) → T (finite x) → T (finite y) → Versus (key f nought) (key f (sub f x y)) (key f x) (key f y)
versus f x y p q a b =
    let K = overflow f + overflow f in
    subst (λ (c : ℕ). Versus c (key f (sub f x y)) (key f x) (key f y)) (sym (nought-key f))
    (subst (λ (d : ℕ). Versus (overflow f) d (key f x) (key f y)) (sym (sub-key f x y p q a b))
    (record {
      less = λ h. total-below f (key f x + (K - key f y)) (d1 K (key f x) (key f y) (key-le f y q) h);
      more = λ h. total-above f (key f x + (K - key f y)) (d2 K (key f x) (key f y) (key-le f y q) h);
      upto = λ h. total-upto f (key f x + (K - key f y)) (d3 K (key f x) (key f y) (key-le f y q) h);
      from = λ h. total-from f (key f x + (K - key f y)) (d4 K (key f x) (key f y) (key-le f y q) h);
    }))

by-lt : (C d x y : ℕ) → Versus C d x y → ltb d C ≡ ltb x y
by-lt C d x y w = same_test (ltb d C) (ltb x y) (λ h. lt→ltb x y (lt_of_not-le (λ (g : y ≤ x). not-le_of_lt (ltb→lt d C h) (w.from g)))) (λ h. lt→ltb d C (w.less (ltb→lt x y h)))

by-gt : (C d x y : ℕ) → Versus C d x y → ltb C d ≡ ltb y x
by-gt C d x y w = same_test (ltb C d) (ltb y x) (λ h. lt→ltb y x (lt_of_not-le (λ (g : x ≤ y). not-le_of_lt (ltb→lt C d h) (w.upto g)))) (λ h. lt→ltb C d (w.more (ltb→lt y x h)))

by_le : (C d x y : ℕ) → Versus C d x y → leb d C ≡ leb x y
by_le C d x y w = same_test (leb d C) (leb x y) (λ h. le→leb x y (le_of_suc-le-suc (lt_of_not-le (λ (g : y < x). not-le_of_lt (w.more g) (leb→le d C h))))) (λ h. le→leb d C (w.upto (leb→le x y h)))

-- ---- the tests on a difference of finite values
fin-lt : (f : Format) (x y : Float) → T (fits f x) → T (fits f y) → T (finite x) → T (finite y) → lt (sub f x y) nought ≡ lt x y
fin-lt f x y p q a b = lt-key f (sub f x y) nought (sub-fits f x y) (nought-fits f) (sub-real f x y a b) tt ∙ by-lt (key f nought) (key f (sub f x y)) (key f x) (key f y) (versus f x y p q a b) ∙ sym (lt-key f x y p q (finite-real x a) (finite-real y b))

fin-gt : (f : Format) (x y : Float) → T (fits f x) → T (fits f y) → T (finite x) → T (finite y) → lt nought (sub f x y) ≡ lt y x
fin-gt f x y p q a b = lt-key f nought (sub f x y) (nought-fits f) (sub-fits f x y) tt (sub-real f x y a b) ∙ by-gt (key f nought) (key f (sub f x y)) (key f x) (key f y) (versus f x y p q a b) ∙ sym (lt-key f y x q p (finite-real y b) (finite-real x a))

fin-le : (f : Format) (x y : Float) → T (fits f x) → T (fits f y) → T (finite x) → T (finite y) → le (sub f x y) nought ≡ le x y
fin-le f x y p q a b = le-key f (sub f x y) nought (sub-fits f x y) (nought-fits f) (sub-real f x y a b) tt ∙ by_le (key f nought) (key f (sub f x y)) (key f x) (key f y) (versus f x y p q a b) ∙ sym (le-key f x y p q (finite-real x a) (finite-real y b))

-- ---- the strict tests, for every two values
pub sub-lt : (f : Format) (x y : Float) → T (fits f x) → T (fits f y) → lt (sub f x y) nought ≡ lt x y
sub-lt f nan y p q = unfold sub lt in refl
sub-lt f (inf true) nan p q = unfold sub lt in refl
sub-lt f (inf false) nan p q = unfold sub lt in refl
sub-lt f (inf true) (inf true) p q = unfold sub lt in refl
sub-lt f (inf true) (inf false) p q = unfold sub lt in refl
sub-lt f (inf false) (inf true) p q = unfold sub lt in refl
sub-lt f (inf false) (inf false) p q = unfold sub lt in refl
sub-lt f (inf s) (fin t n d) p q = unfold sub lt in refl
sub-lt f (fin s m e) nan p q = unfold sub lt in refl
sub-lt f (fin s m e) (inf t) p q = unfold sub lt in refl
sub-lt f (fin s m e) (fin t n d) p q = fin-lt f (fin s m e) (fin t n d) p q tt tt

pub sub-gt : (f : Format) (x y : Float) → T (fits f x) → T (fits f y) → lt nought (sub f x y) ≡ lt y x
sub-gt f nan nan p q = unfold sub lt in refl
sub-gt f nan (inf t) p q = unfold sub lt in refl
sub-gt f nan (fin t n d) p q = unfold sub lt in refl
sub-gt f (inf true) nan p q = unfold sub lt in refl
sub-gt f (inf false) nan p q = unfold sub lt in refl
sub-gt f (inf true) (inf true) p q = unfold sub lt in refl
sub-gt f (inf true) (inf false) p q = unfold sub lt in refl
sub-gt f (inf false) (inf true) p q = unfold sub lt in refl
sub-gt f (inf false) (inf false) p q = unfold sub lt in refl
sub-gt f (inf s) (fin t n d) p q = unfold sub lt in refl
sub-gt f (fin s m e) nan p q = unfold sub lt in refl
sub-gt f (fin s m e) (inf true) p q = unfold sub lt in refl
sub-gt f (fin s m e) (inf false) p q = unfold sub lt in refl
sub-gt f (fin s m e) (fin t n d) p q = fin-gt f (fin s m e) (fin t n d) p q tt tt

-- ---- at most fails too where the same infinity stands on both sides
abbrev pub same_inf : Float → Float → Bool
same_inf nan y = false
same_inf (inf s) nan = false
same_inf (inf s) (inf t) = beq s t
same_inf (inf s) (fin t n d) = false
same_inf (fin s m e) y = false

pub sub-le : (f : Format) (x y : Float) → T (fits f x) → T (fits f y) → le (sub f x y) nought ≡ (le x y && not (same_inf x y))
sub-le f nan y p q = unfold sub le in refl
sub-le f (inf true) nan p q = unfold sub le in refl
sub-le f (inf false) nan p q = unfold sub le in refl
sub-le f (inf true) (inf true) p q = unfold sub le in refl
sub-le f (inf true) (inf false) p q = unfold sub le in refl
sub-le f (inf false) (inf true) p q = unfold sub le in refl
sub-le f (inf false) (inf false) p q = unfold sub le in refl
sub-le f (inf true) (fin t n d) p q = unfold sub le in refl
sub-le f (inf false) (fin t n d) p q = unfold sub le in refl
sub-le f (fin s m e) nan p q = unfold sub le in refl
sub-le f (fin s m e) (inf true) p q = unfold sub le in refl
sub-le f (fin s m e) (inf false) p q = unfold sub le in refl
sub-le f (fin s m e) (fin t n d) p q = fin-le f (fin s m e) (fin t n d) p q tt tt ∙ sym (and-true (le (fin s m e) (fin t n d)))
