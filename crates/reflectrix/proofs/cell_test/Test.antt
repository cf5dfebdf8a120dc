-- A number between the bounds is the cell. Each number on the way is in the normal range, by its size, so each rounding is by at most 2 ^ -24 of it.
use mathlib.Core.Path.{◌≡◌, refl, sym, subst}
use mathlib.Core.Logic.{◌⊎◌, inl, inr}
use mathlib.Core.Bool.{Bool, true, false, ◌&&◌, cond}
use Prim.Native.Nat.{ℕ, zero, suc, ◌+◌, ◌-◌, ◌*◌, ◌^◌, ◌≤◌, ◌<◌, zero-le}
use native.Mathlib.Nat.{le_trans, le_of_eq, le_of_lt, lt_of_lt_of_le, lt_of_le_of_lt, mul-pos, mul-le-mul, mul-le-mul_left, mul-le-mul_right, zero-lt-suc, zero-mul}
use native.Mathlib.Numerals.{add-one}
use native.Mathlib.Omega.{arith}
use lib.IntN.{pos}
use lib.Dec.{T, lit≤, lit<}
use lib.Pow.{pow_pos}
use lib.Ieee.{Float, nan, inf, fin, binary32, of_int, of_bits, eq, le, fits}
use lib.Ieee.Fits.{and_l, and_r}
use lib.Ieee.Exact.{HasValue}
use lib.Ieee.Back.{round_whole}
use lib.Ieee.Scale.{finite}
use lib.Ieee.Positive.{positive, between, value_pos, positive_of_value}
use Rattle.rounding.specs.TiesToEven.{limit}
use Rattle.rounding.proofs.Units.{on-grid}
use Rattle.scalar.specs.F32.{◌*f◌, ◌/f◌, ◌≤f◌}
use mir.Facts.{or_yes}
use Rattle.scalar.specs.Literals.{f0, f0_000001, f1, f1000}
use Rattle.scalar.specs.Root.{sqrt_of}
use Rattle.scalar.specs.Scalar.{trunc_of}
use Rattle.reflectrix.specs.Cell.{khz_of, tame, khz_square_of, under_one, over_one, low_of, high_of}
use Rattle.reflectrix.specs.Laws.{product_of, TestSuffices}
use Rattle.reflectrix.proofs.cell_test.Near.{Within, Rounded, spread}
use Rattle.reflectrix.proofs.cell_test.Chain as chain
use Rattle.reflectrix.proofs.cell_test.Zero.{Zero, zero-real, by_zero, zero-by, zero-over, trunc-zero, not-at-most, eq-zero}
use Rattle.reflectrix.proofs.cell_test.Steps.{L, Is, product, multiple, whole-square, quotient, RootOf, root-of, cut, ordered}

-- ---- a value between two others, in units
pub record Sized (x : Float) (lo hi : ℕ) : Type 0 where
  pub size : ℕ
  pub is : Is x size
  pub least : lo ≤ size
  pub most : size ≤ hi

pub sized : (a x b : Float) (A B : ℕ) → T (fits binary32 x) → Is a A → Is b B → 0 < A → 0 < B → T (le a x) → T (le x b) → Sized x A B
sized a x b A B f h k p q l m = go x f l m (between a x b (positive_of_value a A L h p) (positive_of_value b B L k q) l m)
  where
    go : (x : Float) → T (fits binary32 x) → T (le a x) → T (le x b) → T (positive x) → Sized x A B
    go nan f l m P = absurd P
    go (inf s) f l m P = absurd P
    go (fin true n e) f l m P = absurd P
    go (fin false n e) f l m P =
        let o = on-grid binary32 false n e f in
        let X = o.0 * 2 ^ o.1 in
        let i : Is (fin false n e) X = (refl, o.3) in
        let z = value_pos (fin false n e) X L P (pow_pos 149) i in
        record { size = X; is = i; least = ordered a (fin false n e) A X h i p z l; most = ordered (fin false n e) b X B i k z q m }

-- ---- the constants
thousand : HasValue f1000 false 1000 1
unfolding of_bits
thousand = (refl, refl)

thousand-finite : T (finite f1000)
unfolding of_bits
thousand-finite = tt

pub under-finite : T (finite under_one)
unfolding of_bits
under-finite = tt

pub over-finite : T (finite over_one)
unfolding of_bits
over-finite = tt

pub one : Is f1 (2 ^ 149)
unfolding of_bits
one = (refl, refl)

pub millionth : Is f0_000001 (8796093 * 2 ^ 106)
unfolding of_bits
millionth = (refl, refl)

pub least-mhz : Is (of_bits binary32 0x3a800000) (2 ^ 139)
unfolding of_bits
least-mhz = (refl, refl)

pub most-mhz : Is (of_bits binary32 0x44800000) (2 ^ 159)
unfolding of_bits
most-mhz = (refl, refl)

pub under_one_lem : Is under_one ((2 ^ 24 - 14) * 2 ^ 125)
unfolding of_bits
under_one_lem = (refl, refl)

pub over-one : Is over_one ((2 ^ 24 + 14) * 2 ^ 125)
unfolding of_bits
over-one = (refl, refl)

pub whole : (n : ℕ) → n ≤ 2 ^ 22 → HasValue (of_int binary32 (pos n)) false n 1
unfolding of_int
whole n h = round_whole binary32 false n (le_trans h (lit≤ {m = 2 ^ 22} {n = 2 ^ 24} tt))

-- 1 MHz, for lemmas that speak of a row's frequency but do not depend on it
pub own : Sized f1 (2 ^ 139) (2 ^ 159)
own = record { size = 2 ^ 149; is = one; least = lit≤ tt; most = lit≤ tt }

-- ---- the numbers on the way
module _ (fvv s : Float) (f : Sized fvv (2 ^ 139) (2 ^ 159)) (c : Sized s (2 ^ 129) (2 ^ 149)) where
  abbrev F : ℕ
  F = f.size

  abbrev S : ℕ
  S = c.size

  F-pos : 0 < F
  F-pos = lt_of_lt_of_le (pow_pos 139) f.least

  S_pos : 0 < S
  S_pos = lt_of_lt_of_le (pow_pos 129) c.least

  thousand-least : 1000 * 2 ^ 139 ≤ 1000 * F
  thousand-least = mul-le-mul_left 1000 f.least

  thousand-most : 1000 * F ≤ 1000 * 2 ^ 159
  thousand-most = mul-le-mul_left 1000 f.most

  w : Rounded (f1000 *f fvv) (1000 * F) 1
  w = multiple f1000 fvv 1000 F thousand f.is (zero-lt-suc 999) F-pos (le_trans (lit≤ {n = 1000 * 2 ^ 139} tt) thousand-least) (lt_of_le_of_lt thousand-most (lit< tt))

  abbrev W : ℕ
  W = w.X

  w-size : (2 ^ 147 ≤ W) × (W ≤ 2 * 2 ^ 169)
  w-size = spread (1000 * F) 1 W (2 ^ 147) (2 ^ 169) (zero-lt-suc 0) w.within (le_trans (lit≤ {n = 1000 * 2 ^ 139} tt) thousand-least) (le_trans thousand-most (lit≤ tt))

  W-pos : 0 < W
  W-pos = lt_of_lt_of_le (pow_pos 147) w-size.0

  square-least : 2 ^ 147 * 2 ^ 147 ≤ W * W
  square-least = mul-le-mul w-size.0 w-size.0

  square-most : W * W ≤ 2 * 2 ^ 169 * (2 * 2 ^ 169)
  square-most = mul-le-mul w-size.1 w-size.1

  k : Rounded ((f1000 *f fvv) *f (f1000 *f fvv)) (W * W) L
  k = product (f1000 *f fvv) (f1000 *f fvv) W W w.is w.is W-pos W-pos (le_trans (lit≤ {n = 2 ^ 147 * 2 ^ 147} tt) square-least) (lt_of_le_of_lt square-most (lit< tt))

  abbrev K : ℕ
  K = k.X

  k-size : (2 ^ 144 ≤ K) × (K ≤ 2 * 2 ^ 191)
  k-size = spread (W * W) L K (2 ^ 144) (2 ^ 191) (pow_pos 149) k.within (le_trans (lit≤ {n = 2 ^ 147 * 2 ^ 147} tt) square-least) (le_trans square-most (lit≤ tt))

  -- a bound: the square by a constant of C units, near 1
  bound : (b : Float) (C : ℕ) → Is b C → 2 ^ 148 ≤ C → C ≤ 2 ^ 150 → Rounded ((f1000 *f fvv) *f (f1000 *f fvv) *f b) (K * C) L
  bound b C h lo hi =
      product ((f1000 *f fvv) *f (f1000 *f fvv)) b K C k.is h (lt_of_lt_of_le (pow_pos 144) k-size.0) (lt_of_lt_of_le (pow_pos 148) lo)
      (le_trans (lit≤ {n = 2 ^ 144 * 2 ^ 148} tt) (mul-le-mul k-size.0 lo)) (lt_of_le_of_lt (mul-le-mul k-size.1 hi) (lit< tt))

  bound-pos : (C G : ℕ) → 2 ^ 148 ≤ C → Within (K * C) L G → C ≤ 2 ^ 150 → 0 < G
  bound-pos C G lo g hi = lt_of_lt_of_le (pow_pos 100) (spread (K * C) L G (2 ^ 100) (2 ^ 200) (pow_pos 149) g (le_trans (lit≤ {n = 2 ^ 144 * 2 ^ 148} tt) (mul-le-mul k-size.0 lo)) (le_trans (mul-le-mul k-size.1 hi) (lit≤ tt))).0

  pub bound-value : (b : Float) (C : ℕ) → Is b C → 2 ^ 148 ≤ C → C ≤ 2 ^ 150 → (X : ℕ) × Is ((f1000 *f fvv) *f (f1000 *f fvv) *f b) X
  bound-value b C h lo hi = let g = bound b C h lo hi in (g.X, g.is)

  pub khz-above : T (positive (f1000 *f fvv))
  khz-above = positive_of_value (f1000 *f fvv) W L w.is W-pos

  -- the root, the quotient and the frequency
  root : RootOf (sqrt_of s) (S * L)
  root = root-of s S c.is c.least c.most

  abbrev R : ℕ
  R = root.rounded.X

  r-size : (2 ^ 138 ≤ R) × (R ≤ 2 * 2 ^ 150)
  r-size = spread root.doubled 2 R (2 ^ 138) (2 ^ 150) (zero-lt-suc 1) root.rounded.within root.least root.most

  R-pos : 0 < R
  R-pos = lt_of_lt_of_le (pow_pos 138) r-size.0

  numerator-least : 2 ^ 139 * L ≤ F * L
  numerator-least = mul-le-mul_right L f.least

  numerator-most : F * L ≤ 2 ^ 159 * L
  numerator-most = mul-le-mul_right L f.most

  q : Rounded (fvv /f sqrt_of s) (F * L) R
  q =
      quotient fvv (sqrt_of s) F R f.is root.rounded.is F-pos R-pos
      (le_trans (mul-le-mul_left (2 ^ 23) r-size.1) (le_trans (lit≤ {n = 2 ^ 139 * L} tt) numerator-least))
      (lt_of_le_of_lt numerator-most (lt_of_lt_of_le (lit< {n = limit binary32 * (2 ^ 138 * L)} tt) (mul-le-mul_left (limit binary32) (mul-le-mul_right L r-size.0))))

  abbrev Q : ℕ
  Q = q.X

  q-size : (2 ^ 136 ≤ Q) × (Q ≤ 2 * 2 ^ 170)
  q-size =
      spread (F * L) R Q (2 ^ 136) (2 ^ 170) R-pos q.within
      (le_trans (mul-le-mul_left (2 * 2 ^ 136) r-size.1) (le_trans (lit≤ {n = 2 ^ 139 * L} tt) numerator-least))
      (le_trans numerator-most (le_trans (lit≤ {n = 2 ^ 170 * 2 ^ 138} tt) (mul-le-mul_left (2 ^ 170) r-size.0)))

  p : Rounded (f1000 *f (fvv /f sqrt_of s)) (1000 * Q) 1
  p =
      multiple f1000 (fvv /f sqrt_of s) 1000 Q thousand q.is (zero-lt-suc 999) (lt_of_lt_of_le (pow_pos 136) q-size.0)
      (le_trans (lit≤ {n = 1000 * 2 ^ 136} tt) (mul-le-mul_left 1000 q-size.0)) (lt_of_le_of_lt (mul-le-mul_left 1000 q-size.1) (lit< tt))

  abbrev P : ℕ
  P = p.X

  -- ---- a whole number's square by the square of the cosine
  module _ (n : ℕ) (n_pos : 0 < n) (n-most : n ≤ 2 ^ 22) where
    abbrev x : Float
    x = of_int binary32 (pos n)

    units-least : 1 * L ≤ n * n * L
    units-least = mul-le-mul_right L (mul-pos n_pos n_pos)

    units-most : n * n * L ≤ 2 ^ 22 * 2 ^ 22 * L
    units-most = mul-le-mul_right L (mul-le-mul n-most n-most)

    a : Rounded (x *f x) (n * n * L) 1
    a = whole-square x n (whole n n-most) n_pos (le_trans (lit≤ {n = 1 * L} tt) units-least) (lt_of_le_of_lt units-most (lit< tt))

    abbrev A : ℕ
    A = a.X

    a-size : (2 ^ 148 ≤ A) × (A ≤ 2 * 2 ^ 193)
    a-size = spread (n * n * L) 1 A (2 ^ 148) (2 ^ 193) (zero-lt-suc 0) a.within (le_trans (lit≤ {n = 1 * L} tt) units-least) (le_trans units-most (lit≤ tt))

    b : Rounded (x *f x *f s) (A * S) L
    b =
        product (x *f x) s A S a.is c.is (lt_of_lt_of_le (pow_pos 148) a-size.0) S_pos
        (le_trans (lit≤ {n = 2 ^ 148 * 2 ^ 129} tt) (mul-le-mul a-size.0 c.least)) (lt_of_le_of_lt (mul-le-mul a-size.1 c.most) (lit< tt))

    b-size : (2 ^ 100 ≤ b.X) × (b.X ≤ 2 * 2 ^ 300)
    b-size = spread (A * S) L b.X (2 ^ 100) (2 ^ 300) (pow_pos 149) b.within (le_trans (lit≤ {n = 2 ^ 148 * 2 ^ 129} tt) (mul-le-mul a-size.0 c.least)) (le_trans (mul-le-mul a-size.1 c.most) (lit≤ tt))

    B-pos : 0 < b.X
    B-pos = lt_of_lt_of_le (pow_pos 100) b-size.0

    pub product-value : (X : ℕ) × Is (x *f x *f s) X × (X ≤ 2 * 2 ^ 300)
    product-value = (b.X, b.is, b-size.1)

    not-above : T (le (x *f x *f s) ((f1000 *f fvv) *f (f1000 *f fvv) *f under_one)) → n * L ≤ P
    not-above t =
        let C = (2 ^ 24 - 14) * 2 ^ 125 in
        let g = bound under_one C under_one_lem (lit≤ tt) (lit≤ tt) in
        let test = ordered (x *f x *f s) ((f1000 *f fvv) *f (f1000 *f fvv) *f under_one) b.X g.X b.is g.is B-pos (bound-pos C g.X (lit≤ tt) g.within (lit≤ tt)) t in
        chain.not-above L (2 ^ 24) (2 ^ 24 - 1) (2 ^ 24 + 1) C n S F W K g.X A b.X root.doubled R Q P (lit< tt)
        p.within.low q.within.low root.rounded.within.high root.is.high a.within.low b.within.low g.within.high k.within.high w.within.high test R-pos (lit< tt) (lit≤ tt)

    below : T (le ((f1000 *f fvv) *f (f1000 *f fvv) *f over_one) (x *f x *f s)) → P < n * L
    below t =
        let C = (2 ^ 24 + 14) * 2 ^ 125 in
        let g = bound over_one C over-one (lit≤ tt) (lit≤ tt) in
        let test = ordered ((f1000 *f fvv) *f (f1000 *f fvv) *f over_one) (x *f x *f s) g.X b.X g.is b.is (bound-pos C g.X (lit≤ tt) g.within (lit≤ tt)) B-pos t in
        chain.below L (2 ^ 24) (2 ^ 24 - 1) (2 ^ 24 + 1) C n S F W K g.X A b.X root.doubled R Q P (lit< tt)
        p.within.high q.within.high root.rounded.within.low root.is.low a.within.high b.within.high g.within.low k.within.low w.within.low test (mul-pos (mul-pos n_pos (pow_pos 149)) R-pos) (lit< tt)

-- ---- the test
at-most-nan : (x : Float) → T (le x nan) → ⊥
unfolding le
at-most-nan nan h = h
at-most-nan (inf s) h = h
at-most-nan (fin s m e) h = h

-- what is tame is a zero or in the range
pub tame-size : (fvv : Float) → T (fits binary32 fvv) → T (tame fvv) → Zero fvv ⊎ Sized fvv (2 ^ 139) (2 ^ 159)
unfolding tame
tame-size fvv f t =
    let a = of_bits binary32 0x3a800000 in
    let b = of_bits binary32 0x44800000 in
    elim (or_yes (eq fvv f0) (le a fvv && le fvv b) t) [
      | inl z ↦ inl (eq-zero fvv f z)
      | inr k ↦ inr (sized a fvv b (2 ^ 139) (2 ^ 159) f least-mhz most-mhz (pow_pos 139) (pow_pos 159) (and_l (le a fvv) (le fvv b) k) (and_r (le a fvv) (le fvv b) k))
    ]

pub cosine-size : (s : Float) → T (fits binary32 s) → T (f0_000001 ≤f s) → T (s ≤f f1) → Sized s (2 ^ 129) (2 ^ 149)
cosine-size s f l m =
    let z = sized f0_000001 s f1 (8796093 * 2 ^ 106) (2 ^ 149) f millionth one (lit< tt) (pow_pos 149) l m in
    record { size = z.size; is = z.is; least = le_trans (lit≤ {n = 8796093 * 2 ^ 106} tt) z.least; most = z.most }

pub test-suffices : TestSuffices
unfolding khz_of low_of high_of khz_square_of
test-suffices fvv s n f g at_least_lem at_most l below-high above_low = go (tame fvv) (tame-size fvv f) below-high
  where
    c : Sized s (2 ^ 129) (2 ^ 149)
    c = cosine-size s g at_least_lem at_most

    low_end : (z : Sized fvv (2 ^ 139) (2 ^ 159)) (n : ℕ) → n < 2 ^ 22 → T (of_int binary32 (pos n) *f of_int binary32 (pos n) *f s ≤f ((f1000 *f fvv) *f (f1000 *f fvv) *f under_one)) → n * L ≤ P fvv s z c
    low_end z zero l t = le_trans (le_of_eq (zero-mul L)) zero-le
    low_end z (suc n) l t = not-above fvv s z c (suc n) (zero-lt-suc n) (le_of_lt l) t

    nothing : (n : ℕ) → n < 2 ^ 22 → Zero fvv → T (product_of n s ≤f ((f1000 *f fvv) *f (f1000 *f fvv) *f under_one)) → trunc_of (f1000 *f (fvv /f sqrt_of s)) ≡ pos n
    nothing zero l z t =
        trunc-zero (f1000 *f (fvv /f sqrt_of s))
        (by_zero f1000 (fvv /f sqrt_of s) thousand-finite (zero-over fvv (sqrt_of s) z (positive_of_value (sqrt_of s) (R f1 s own c) L (root f1 s own c).rounded.is (R-pos f1 s own c))))
    nothing (suc n) l z t =
        let w = by_zero f1000 fvv thousand-finite z in
        let k = zero-by (f1000 *f fvv) (f1000 *f fvv) w (zero-real (f1000 *f fvv) w) in
        let y = b f1 s own c (suc n) (zero-lt-suc n) (le_of_lt l) in
        absurd (not-at-most (product_of (suc n) s) ((f1000 *f fvv) *f (f1000 *f fvv) *f under_one) (positive_of_value (product_of (suc n) s) y.X L y.is (B-pos f1 s own c (suc n) (zero-lt-suc n) (le_of_lt l))) (zero-by ((f1000 *f fvv) *f (f1000 *f fvv)) under_one k under-finite) t)

    within : (y : Sized fvv (2 ^ 139) (2 ^ 159)) → T (product_of n s ≤f ((f1000 *f fvv) *f (f1000 *f fvv) *f under_one)) → trunc_of (f1000 *f (fvv /f sqrt_of s)) ≡ pos n
    within y t =
        cut (f1000 *f (fvv /f sqrt_of s)) (P fvv s y c) n (p fvv s y c).is (low_end y n l t)
        (subst (λ (m : ℕ). P fvv s y c < m * L) (add-one n) (below fvv s y c (n + 1) (subst (λ (m : ℕ). 0 < m) (sym (add-one n)) (zero-lt-suc n)) (up_to n l) above_low))
        (le_trans (le_of_lt l) (lit≤ tt))
      where
        up_to : (n : ℕ) → n < 2 ^ 22 → n + 1 ≤ 2 ^ 22
        up_to n l = omega arith

    go : (t : Bool) → (T t → Zero fvv ⊎ Sized fvv (2 ^ 139) (2 ^ 159)) → T (of_int binary32 (pos n) *f of_int binary32 (pos n) *f s ≤f cond t ((f1000 *f fvv) *f (f1000 *f fvv) *f under_one) nan)
        → trunc_of (f1000 *f (fvv /f sqrt_of s)) ≡ pos n
    go false z t = absurd (at-most-nan (of_int binary32 (pos n) *f of_int binary32 (pos n) *f s) t)
    go true z t = elim (z tt) [ inl o ↦ nothing n l o t | inr y ↦ within y t ]
