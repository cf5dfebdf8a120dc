-- What is told by the patterns of the two products and of the bounds is right.
use mathlib.Core.Path.{◌≡◌, refl, sym, ap, ap₂, ◌∙◌, subst}
use mathlib.Core.Logic.{inl, inr}
use mathlib.Core.Bool.{Bool, true, false, cond}
use Prim.Native.Nat.{ℕ, zero, suc, ◌+◌, ◌-◌, ◌*◌, ◌^◌, ◌≤◌, ◌<◌}
use native.Mathlib.Nat.{le_of_lt, lt_irrefl, lt_of_lt_of_le, lt_of_le_of_lt, zero-lt-suc, zero-mul, not-le_of_lt}
use native.Mathlib.Omega.{arith}
use lib.IntN.{pos}
use lib.Dec.{T, leb, leb→le, lit≤, lit<}
use lib.Pow.{pow_pos}
use lib.Ieee.{Float, nan, inf, fin, binary32, unlike, up, down, mul, of_int, of_bits, to_bits, fits}
use lib.Ieee.Fits.{mul-fits}
use lib.Ieee.Scale.{finite}
use lib.Ieee.Positive.{positive, positive-finite, positive_of_value}
use Rattle.order.specs.Units.{sgn}
use Rattle.order.proofs.Sums.{round-as, sized as sized-as}
use Rattle.scalar.specs.F32.{◌*f◌, ◌≤f◌}
use Rattle.scalar.specs.Literals.{f0_000001, f1, f1000}
use Rattle.reflectrix.specs.Cell.{khz_of, tame, khz_square_of, under_one, over_one, low_of, high_of, low_pattern_of, high_pattern_of, in_doubt, told_of, Told}
use Rattle.reflectrix.specs.Laws.{product_of}
use Rattle.reflectrix.proofs.cell_test.Cosine.{square-sign}
use Rattle.reflectrix.proofs.cell_test.Patterns.{pattern-lt, patterns-le}
use Rattle.reflectrix.proofs.cell_test.Steps.{L, Is}
use Rattle.reflectrix.proofs.cell_test.Test.{Sized, own, one, whole, under-finite, over-finite, under_one_lem, over-one, least-mhz, most-mhz, tame-size, cosine-size, sized, bound-value, khz-above, product-value, test-suffices}
use Rattle.reflectrix.proofs.cell_test.Zero.{Zero, of-value, zero-real, by_zero, zero-by}

-- ---- a zero without a sign
unsigned : (x y : Float) → T (finite x) → T (finite y) → sgn x ≡ false → sgn y ≡ false → sgn (mul binary32 x y) ≡ false
unfolding mul
unsigned nan y f g h k = absurd f
unsigned (inf s) y f g h k = absurd f
unsigned (fin s m e) nan f g h k = absurd g
unsigned (fin s m e) (inf t) f g h k = absurd g
unsigned (fin s m e) (fin t n d) f g h k = (round-as binary32 (unlike s t) (m * up e * (n * up d)) (down e * down d)).1 ∙ ap₂ (λ (a b : Bool). unlike a b) h k

no-units : (x : Float) → Zero x → sgn x ≡ false → Is x 0
no-units nan z s = absurd z
no-units (inf t) z s = absurd z
no-units (fin t m e) z s = (s, ap (λ (k : ℕ). k * up e * L) z ∙ ap (λ (k : ℕ). k * L) (zero-mul (up e)) ∙ zero-mul L ∙ sym (zero-mul (down e)))

-- ---- the products
-- a cosine of 1
unit : Sized f1 (2 ^ 129) (2 ^ 149)
unit = record { size = 2 ^ 149; is = one; least = lit≤ tt; most = lit≤ tt }

pub record Units (x : Float) : Type 0 where
  pub units : ℕ
  pub is : Is x units
  pub most : units < 2 ^ 302

pub product-is : (s : Float) (n : ℕ) → T (fits binary32 s) → T (f0_000001 ≤f s) → T (s ≤f f1) → n ≤ 2 ^ 22 → Units (product_of n s)
unfolding of_int
product-is s zero f l m h =
    let c = cosine-size s f l m in
    let x = of_int binary32 (pos 0) in
    let z = of-value x false 1 (zero-lt-suc 0) (whole 0 h) in
    let k = zero-by x x z (zero-real x z) in
    let g = positive-finite s (positive_of_value s c.size L c.is (lt_of_lt_of_le (pow_pos 129) c.least)) in
    record { units = 0; is = no-units (product_of 0 s) (zero-by (mul binary32 x x) s k g) (unsigned (mul binary32 x x) s (zero-real (mul binary32 x x) k) g (square-sign x) (sized-as binary32 s false c.size c.is).1); most = pow_pos 302 }
product-is s (suc n) f l m h =
    let c = cosine-size s f l m in
    let y = product-value f1 s own c (suc n) (zero-lt-suc n) h in
    record { units = y.0; is = y.1; most = lt_of_le_of_lt y.2 (lit< tt) }

-- ---- the bounds
bound-is : (fvv k : Float) (C : ℕ) → T (fits binary32 fvv) → T (tame fvv) → Is k C → 2 ^ 148 ≤ C → C ≤ 2 ^ 150 → T (finite k) → (X : ℕ) × Is (khz_square_of fvv *f k) X
unfolding khz_square_of
bound-is fvv k C f t h lo hi g =
    elim (tame-size fvv f t) [
      | inl z ↦
          let x = f1000 *f fvv in
          let w = by_zero f1000 fvv (unfold of_bits in tt) z in
          let q = zero-by x x w (zero-real x w) in
          (0, no-units (x *f x *f k) (zero-by (x *f x) k q g) (unsigned (x *f x) k (zero-real (x *f x) q) g (square-sign x) (sized-as binary32 k false C h).1))
      | inr y ↦ bound-value fvv f1 y unit k C h lo hi
    ]

pub low-is : (fvv : Float) → T (fits binary32 fvv) → T (tame fvv) → (X : ℕ) × Is (khz_square_of fvv *f under_one) X
low-is fvv f t = bound-is fvv under_one ((2 ^ 24 - 14) * 2 ^ 125) f t under_one_lem (lit≤ tt) (lit≤ tt) under-finite

pub high-is : (fvv : Float) → T (fits binary32 fvv) → T (tame fvv) → (X : ℕ) × Is (khz_square_of fvv *f over_one) X
high-is fvv f t = bound-is fvv over_one ((2 ^ 24 + 14) * 2 ^ 125) f t over-one (lit≤ tt) (lit≤ tt) over-finite

-- ---- the test
-- a guess is told where it passes both tests
told-by : (fvv s : Float) (n p q low high : ℕ) → n < 2 ^ 22 → (p ≤ low → high ≤ q → khz_of fvv s ≡ pos n) → Told fvv s (told_of n p q low high)
unfolding told_of
told-by fvv s n p q low high h k = go (leb high q) (leb p low) (leb→le high q) (leb→le p low)
  where
    doubt : Told fvv s in_doubt
    doubt = record { most = lit< tt; right = λ l. absurd (lt_irrefl in_doubt l) }

    go : (a b : Bool) → (T a → high ≤ q) → (T b → p ≤ low) → Told fvv s (cond a (cond b n in_doubt) in_doubt)
    go false b x y = doubt
    go true false x y = doubt
    go true true x y = record { most = lt_of_lt_of_le h (lit≤ tt); right = λ l. k (y tt) (x tt) }

pub told-right : (fvv s : Float) (n : ℕ) → T (fits binary32 fvv) → T (fits binary32 s) → T (f0_000001 ≤f s) → T (s ≤f f1) → n < 2 ^ 22
    → Told fvv s (told_of n (to_bits binary32 (product_of n s)) (to_bits binary32 (product_of (n + 1) s)) (low_pattern_of fvv) (high_pattern_of fvv))
unfolding low_pattern_of high_pattern_of low_of high_of
told-right fvv s n f g l m h = told-by fvv s n (to_bits binary32 (product_of n s)) (to_bits binary32 (product_of (n + 1) s)) (low_pattern_of fvv) (high_pattern_of fvv) h (go (tame fvv) refl)
  where
    x : Units (product_of n s)
    x = product-is s n g l m (le_of_lt h)

    y : Units (product_of (n + 1) s)
    y = product-is s (n + 1) g l m (omega (arith, h))

    suffices : T (product_of n s ≤f low_of fvv) → T (high_of fvv ≤f product_of (n + 1) s) → khz_of fvv s ≡ pos n
    suffices = test-suffices fvv s n f g l m h

    go : (t : Bool) → tame fvv ≡ t → to_bits binary32 (product_of n s) ≤ cond t (to_bits binary32 (low_of fvv)) 0 → cond t (to_bits binary32 (high_of fvv)) (2 ^ 32 - 1) ≤ to_bits binary32 (product_of (n + 1) s) → khz_of fvv s ≡ pos n
    go false e a b = absurd (not-le_of_lt (pattern-lt (product_of (n + 1) s) y.units y.is y.most) b)
    go true e a b =
        let t : T (tame fvv) = subst T (sym e) tt in
        let lower : low_of fvv ≡ khz_square_of fvv *f under_one = ap (λ (c : Bool). cond c (khz_square_of fvv *f under_one) nan) e in
        let low = low-is fvv f t in
        let high = high-is fvv f t in
        suffices
        (subst (λ (z : Float). T (product_of n s ≤f z)) (sym lower) (patterns-le (product_of n s) (khz_square_of fvv *f under_one) x.units low.0 (mul-fits binary32 _ s) (mul-fits binary32 (khz_square_of fvv) under_one) x.is low.1 (subst (λ (z : Float). to_bits binary32 (product_of n s) ≤ to_bits binary32 z) lower a)))
        (patterns-le (khz_square_of fvv *f over_one) (product_of (n + 1) s) high.0 y.units (mul-fits binary32 (khz_square_of fvv) over_one) (mul-fits binary32 _ s) high.1 y.is b)

-- ---- what a cell is guessed from
pub khz-positive : (fvv : Float) → T (fits binary32 fvv) → T (of_bits binary32 0x3a800000 ≤f fvv) → T (fvv ≤f of_bits binary32 0x44800000) → T (positive (f1000 *f fvv))
khz-positive fvv f l m = khz-above fvv f1 (sized (of_bits binary32 0x3a800000) fvv (of_bits binary32 0x44800000) (2 ^ 139) (2 ^ 159) f least-mhz most-mhz (pow_pos 139) (pow_pos 159) l m) unit
