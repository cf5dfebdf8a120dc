-- `sin_of x` and `cos_of x` are less than one unit of their last place from the sine and the cosine of x, to the side towards zero less than one of the unit just below them.
-- From 2 ^ -12 on this is the rounding of `wave_bounds`, carried from the small angle to x. Below 2 ^ -12 the sine is x, less at most |x|³ / 6, and the cosine 1, less at most x² / 2: both within the unit just below.
use mathlib.Core.Path.{◌≡◌, refl, sym, ap, ap₂, ◌∙◌, subst, subst₂}
use mathlib.Core.Bool.{Bool, true, false, not, cond, beq}
use Prim.Native.Nat.{ℕ, suc, ◌+◌, ◌-◌, ◌*◌, ◌/◌, ◌%◌, ◌^◌, ◌≤◌, ◌<◌}
use native.Mathlib.Nat.{add-sub_of_le, lt_of_not-le, not-le_of_lt, le_trans, le_of_eq, le_of_lt, lt_of_lt_of_le, mul_assoc, mul_comm, mul_right_comm, mul-le-mul, mul-le-mul_left, mul-le-mul_right, le-mul_of_pos_right, le_of_mul-le-mul_right, eq_of_mul-eq-mul_right}
use native.Mathlib.Omega.{arith}
use mathlib.Core.Logic.{◌⊎◌, inl, inr}
use lib.Dec.{T, eqb, leb, lit<, lit≤}
use lib.IntN.{ℤ}
use lib.Pow.{pow_pos, pow-add}
use lib.Count.{count_leading_zeros}
use borrow.Author.Tests.{le-leb, lt-leb}
use lib.Ieee.{Float, nan, inf, fin, binary32, up, down, size, of_bits, to_bits, fits}
use lib.Ieee.Fits.{down_pos}
use lib.Ieee.Bits.{of_bits-to_bits, to_bits-lt}
use lib.Ieee.Exact.{HasValue}
use Rattle.series.specs.Series.{Wave, sine, cosine}
use Rattle.series.proofs.Pairs.{sums, Limit, Ksin, Kcos, shift, start, Kat, den_pos, sin-pos, cos-pos}
use Rattle.series.proofs.Classes.{sin-later, cos-later}
use Rattle.waves.specs.SinCos.{ratio_of, sine_at, quarter_turn, half_turn, three_quarters, mag_of, at_small, wave_at, wave_bits, sin_of, cos_of}
use Rattle.fixed.specs.Fixed.{mant}
use Rattle.scalar.specs.Root.{steps}
use Rattle.exact.specs.Unit.{unity}
use Rattle.exact_waves.specs.Near.{NearSin, NearCos, SinNear, CosNear}
use Rattle.series.proofs.Alternating.{Low, High, limit}
use Rattle.fixed.proofs.Round.{rounded, top_of}
use Rattle.wave_bounds.proofs.Kernel.{kernel}
use Rattle.wave_bounds.proofs.Turns.{sin-below-half, sin-above-half, cos-below-quarter, cos-above-quarter, cos-below-three}
use Rattle.wave_bounds.proofs.Folds.{fold-plus, fold-minus}
use Rattle.wave_bounds.proofs.Rounding.{SidedAt, between, limit-either, exponent, rounds}
use Rattle.series.proofs.WaveFraction.{same-limit, wider-limit, later}
use Rattle.fixed.proofs.Values.{value, v-small, bits-255, sign-plus}
use Rattle.fixed.proofs.Sizes.{finite-value, size-lt}
use Rattle.scalar.proofs.Patterns.{steps-is}
use Rattle.exact.proofs.Unit.{below_ulps, below_le}
use Rattle.std.proofs.lemmas.Float.{one_f32_is}
use Rattle.rounding.proofs.Units.{same_sign}
use Rattle.scalar.proofs.Nan.{the-nan}
use Rattle.cases.proofs.Cases.{split}
use Rattle.waves.proofs.Magnitude.{mag-le, mag-ge, grain}
use Rattle.waves.proofs.Patterns.{packed, sine-at-lt, sin-direct, sin-below, sin-above, cos-below, cos-above, cos-beyond, small-bits, large-bits, outside-bits}

-- ---- one statement for both: the sign of r (t) is taken as it stands, or turned where x's sign s turns a sine
abbrev agrees : Wave → Bool → Bool → Bool
agrees sine s t = beq s t
agrees cosine s t = not t

abbrev NearWave : Wave → Float → Float → Type 0
NearWave w nan r = r ≡ nan
NearWave w (inf s) r = r ≡ nan
NearWave w (fin s m e) nan = 4 * down e < m * up e
NearWave w (fin s m e) (inf t) = ⊥
NearWave w (fin s m e) (fin t n f) = SidedAt (agrees w s t) (Kat (shift w)) (m * up e) (down e) (start w (m * up e)) (start w (down e)) 9 (steps (fin t n f))

is-sin : (x r : Float) → NearWave sine x r → NearSin x r
is-sin nan r h = h
is-sin (inf s) r h = h
is-sin (fin s m e) nan h = h
is-sin (fin s m e) (inf t) h = h
is-sin (fin s m e) (fin t n f) h =
    λ k l. between _ _ _ _ _ _ _ _ (sin-later (m * up e) (down e) _ _ _ _ 9 (down_pos e) (den_pos Ksin sin-pos (m * up e) (down e) (m * up e) (down e) (down_pos e) (down_pos e)) h k l)

is-cos : (x r : Float) → NearWave cosine x r → NearCos x r
is-cos nan r h = h
is-cos (inf s) r h = h
is-cos (fin s m e) nan h = h
is-cos (fin s m e) (inf t) h = h
is-cos (fin s m e) (fin true n f) h =
    λ k l. between _ _ _ _ _ _ _ _ (cos-later (m * up e) (down e) _ _ _ _ 9 (down_pos e) (den_pos Kcos cos-pos (m * up e) (down e) 1 1 (down_pos e) (lit< tt)) h k l)
is-cos (fin s m e) (fin false n f) h =
    λ k l. between _ _ _ _ _ _ _ _ (cos-later (m * up e) (down e) _ _ _ _ 9 (down_pos e) (den_pos Kcos cos-pos (m * up e) (down e) 1 1 (down_pos e) (lit< tt)) h k l)

-- ---- from values to nearness
cross : (m X : ℕ) (e : ℤ) → m * up e * 2 ^ 149 ≡ X * 2 ^ 88 * down e → m * up e * 2 ^ 61 ≡ X * down e
cross m X e h =
    eq_of_mul-eq-mul_right (2 ^ 88) (pow_pos 88) (m * up e * 2 ^ 61) (X * down e) (mul_assoc (m * up e) (2 ^ 61) (2 ^ 88) ∙ h ∙ mul_right_comm X (2 ^ 88) (down e))

module _ (w : Wave) (s t g : Bool) (G : agrees w s t ≡ g) (X v : ℕ) where
  near-at : (x r : Float) → HasValue x s (X * 2 ^ 88) (2 ^ 149) → HasValue r t v (2 ^ 149) → SidedAt g (Kat (shift w)) X (2 ^ 61) (start w X) (start w (2 ^ 61)) 9 v → NearWave w x r
  near-at nan r h k L = absurd h
  near-at (inf a) r h k L = absurd h
  near-at (fin a m e) nan h k L = absurd k
  near-at (fin a m e) (inf b) h k L = k
  near-at (fin a m e) (fin b n f) h k L =
      let q : agrees w a b ≡ g = ap₂ (λ (y z : Bool). agrees w y z) h.0 k.0 ∙ G in
      subst₂ (λ (y : Bool) (z : ℕ). SidedAt y (Kat (shift w)) (m * up e) (down e) (start w (m * up e)) (start w (down e)) 9 z) (sym q) (sym (steps-is (fin b n f) t v k))
      (same-limit w (Kat (shift w)) X (2 ^ 61) (m * up e) (down e) (pow_pos 61) (cross m X e h.1) 9 _ _ _ _ L)

-- ---- from 2 ^ -12 to 4
beq-not : (s : Bool) → beq s (not s) ≡ false
beq-not true = refl
beq-not false = refl

-- the sine has the sign of x or the other one; the cosine does not look at it
abbrev sign_of : Wave → ℕ → ℕ
sign_of sine b = b / 2 ^ 31
sign_of cosine b = 0

abbrev sign_at : Bool → ℕ → ℕ
sign_at true t = t
sign_at false t = 1 - t

sign-minus : (b p : ℕ) → b < 2 ^ 32 → p < 255 * 2 ^ 23 → leb (2 ^ 31) ((1 - b / 2 ^ 31) * 2 ^ 31 + p) ≡ not (leb (2 ^ 31) b)
sign-minus b p B h = split b (2 ^ 31) (λ l. le-leb (2 ^ 31) ((1 - b / 2 ^ 31) * 2 ^ 31 + p) (omega arith) ∙ sym (ap not (lt-leb (2 ^ 31) b l))) (λ l. lt-leb (2 ^ 31) ((1 - b / 2 ^ 31) * 2 ^ 31 + p) (omega arith) ∙ sym (ap not (le-leb (2 ^ 31) b l)))

sign-agrees : (w : Wave) (g : Bool) (b p : ℕ) → b < 2 ^ 32 → p < 255 * 2 ^ 23 → agrees w (leb (2 ^ 31) b) (leb (2 ^ 31) (sign_at g (sign_of w b) * 2 ^ 31 + p)) ≡ g
sign-agrees sine true b p B h = ap (λ (y : Bool). beq (leb (2 ^ 31) b) y) (sign-plus b p h) ∙ same_sign (leb (2 ^ 31) b)
sign-agrees cosine true b p B h = ap not (lt-leb (2 ^ 31) (0 * 2 ^ 31 + p) (omega arith))
sign-agrees sine false b p B h = ap (λ (y : Bool). beq (leb (2 ^ 31) b) y) (sign-minus b p B h) ∙ beq-not (leb (2 ^ 31) b)
sign-agrees cosine false b p B h = ap not (le-leb (2 ^ 31) ((1 - 0) * 2 ^ 31 + p) (omega arith))

x-value : (b : ℕ) → 0x3980_0000 ≤ b % 2 ^ 31 → b % 2 ^ 31 ≤ 0x4080_0000 → HasValue (of_bits binary32 b) (leb (2 ^ 31) b) (mag_of (b % 2 ^ 31) * 2 ^ 88) (2 ^ 149)
x-value b l h =
    let a = b % 2 ^ 31 in
    let m = 2 ^ 23 + a % 2 ^ 23 in
    let e = a / 2 ^ 23 - 115 in
    subst (λ (x : ℕ). HasValue (of_bits binary32 b) (leb (2 ^ 31) b) x (2 ^ 149)) (ap (λ (x : ℕ). m * x) (pow-add 2 e 114) ∙ sym (mul_assoc m (2 ^ e) (2 ^ 114)) ∙ sym (mul_assoc (m * 2 ^ e) (2 ^ 26) (2 ^ 88)))
    (value b (e + 114) m (omega arith) (omega arith) (omega arith) (omega arith))

-- the angle r that |x| is folded onto, with the answer's bits, and how near the sums at |x| are
pub record Folded (w : Wave) (b : ℕ) (g : Bool) : Type 0 where
  pub r : ℕ
  pub least : 2 ^ 36 ≤ r
  pub most : r < 2 ^ 62
  pub bits : wave_at w (b / 2 ^ 31) (mag_of (b % 2 ^ 31)) ≡ sign_at g (sign_of w b) * 2 ^ 31 + sine_at r
  pub near : Limit (Kat (shift w)) (mag_of (b % 2 ^ 31)) (2 ^ 61) (start w (mag_of (b % 2 ^ 31))) (start w (2 ^ 61)) 9 (2 ^ 93) (cond g (ratio_of r * r) 0) (cond g 0 (ratio_of r * r)) (20 * r + 2 ^ 37 + 2 ^ 30)

abbrev Grain : ℕ → Type 0
Grain X = (X < 2 ^ 61) ⊎ ((k : ℕ) × (X ≡ k * 2 ^ 38))

-- no float is nearer than 2 ^ -25 to a turn
below-quarter : (X : ℕ) → Grain X → X ≤ quarter_turn → 2 ^ 36 ≤ quarter_turn - X
below-quarter X (inl h) l = omega arith
below-quarter X (inr (k, e)) l = omega arith

above-quarter : (X : ℕ) → Grain X → quarter_turn < X → 2 ^ 36 ≤ X - quarter_turn
above-quarter X (inl h) l = omega arith
above-quarter X (inr (k, e)) l = omega arith

below_half : (X : ℕ) → Grain X → X ≤ half_turn → 2 ^ 36 ≤ half_turn - X
below_half X (inl h) l = omega arith
below_half X (inr (k, e)) l = omega arith

above_half : (X : ℕ) → Grain X → half_turn < X → 2 ^ 36 ≤ X - half_turn
above_half X (inl h) l = omega arith
above_half X (inr (k, e)) l = omega arith

module _ (b : ℕ) (h : b % 2 ^ 31 ≤ 0x4080_0000) where
  abbrev X : ℕ
  X = mag_of (b % 2 ^ 31)

  X-le : mag_of (b % 2 ^ 31) ≤ 2 ^ 63
  X-le = mag-le (b % 2 ^ 31) h

  X-five : mag_of (b % 2 ^ 31) ≤ 5 * 2 ^ 61
  X-five = le_trans X-le (lit≤ tt)

  X-grain : Grain (mag_of (b % 2 ^ 31))
  X-grain = grain (b % 2 ^ 31)

  direct : X ≤ quarter_turn → Folded sine b true
  direct l =
      let m : X < 2 ^ 62 = le_trans (lt-suc X quarter_turn l) (lit≤ tt) in
      record {
        r = X;
        least = le_trans (lit≤ tt) (mag-ge (b % 2 ^ 31));
        most = m;
        bits = sin-direct X (b / 2 ^ 31) l;
        near = wider-limit Ksin X (2 ^ 61) X (2 ^ 61) 9 (2 ^ 93) (ratio_of X * X) 0 (20 * X) (20 * X + 2 ^ 37 + 2 ^ 30) (wide (20 * X)) (later Ksin X (2 ^ 61) X (2 ^ 61) 4 9 (2 ^ 93) (ratio_of X * X) 0 (20 * X) (lit≤ tt) (kernel X m));
      }
    where
      lt-suc : (x y : ℕ) → x ≤ y → x < suc y
      lt-suc x y l = omega arith

      wide : (y : ℕ) → y ≤ y + 2 ^ 37 + 2 ^ 30
      wide y = omega arith

  sine-below : quarter_turn < X → X ≤ half_turn → Folded sine b true
  sine-below k l =
      let m : half_turn - X < 2 ^ 62 = go X k in
      record {
        r = half_turn - X;
        least = below_half X X-grain l;
        most = m;
        bits = sin-below X (b / 2 ^ 31) k l;
        near = fold-plus sine X (half_turn - X) X-le m (sin-below-half X (half_turn - X) X-five (le_of_lt m) (add-sub_of_le l));
      }
    where
      go : (X : ℕ) → quarter_turn < X → half_turn - X < 2 ^ 62
      go X k = omega arith

  sine-above : half_turn < X → Folded sine b false
  sine-above k =
      let m : X - half_turn < 2 ^ 62 = go X X-le in
      record {
        r = X - half_turn;
        least = above_half X X-grain k;
        most = m;
        bits = sin-above X (b / 2 ^ 31) k;
        near = fold-minus sine X (X - half_turn) X-le m (sin-above-half X (X - half_turn) X-five (le_of_lt m) (add-sub_of_le (le_of_lt k)));
      }
    where
      go : (X : ℕ) → X ≤ 2 ^ 63 → X - half_turn < 2 ^ 62
      go X k = omega arith

  cosine-below : X ≤ quarter_turn → Folded cosine b true
  cosine-below l =
      let m : quarter_turn - X < 2 ^ 62 = go X in
      record {
        r = quarter_turn - X;
        least = below-quarter X X-grain l;
        most = m;
        bits = cos-below X (b / 2 ^ 31) l;
        near = fold-plus cosine X (quarter_turn - X) X-le m (cos-below-quarter X (quarter_turn - X) X-five (le_of_lt m) (add-sub_of_le l));
      }
    where
      go : (X : ℕ) → quarter_turn - X < 2 ^ 62
      go X = omega arith

  cosine-above : quarter_turn < X → X ≤ half_turn → Folded cosine b false
  cosine-above k l =
      let m : X - quarter_turn < 2 ^ 62 = go X l in
      record {
        r = X - quarter_turn;
        least = above-quarter X X-grain k;
        most = m;
        bits = cos-above X (b / 2 ^ 31) k l;
        near = fold-minus cosine X (X - quarter_turn) X-le m (cos-above-quarter X (X - quarter_turn) X-five (le_of_lt m) (add-sub_of_le (le_of_lt k)));
      }
    where
      go : (X : ℕ) → X ≤ half_turn → X - quarter_turn < 2 ^ 62
      go X k = omega arith

  cosine-beyond : half_turn < X → Folded cosine b false
  cosine-beyond k =
      let m : three_quarters - X < 2 ^ 62 = go X k in
      record {
        r = three_quarters - X;
        least = away X X-le;
        most = m;
        bits = cos-beyond X (b / 2 ^ 31) k;
        near = fold-minus cosine X (three_quarters - X) X-le m (cos-below-three X (three_quarters - X) X-five (le_of_lt m) (add-sub_of_le (le_trans X-le (lit≤ tt))));
      }
    where
      go : (X : ℕ) → half_turn < X → three_quarters - X < 2 ^ 62
      go X k = omega arith

      away : (X : ℕ) → X ≤ 2 ^ 63 → 2 ^ 36 ≤ three_quarters - X
      away X k = omega arith

-- the answer's value
sine-value : (c t r : ℕ) → c ≡ t * 2 ^ 31 + sine_at r → (l : 2 ^ 36 ≤ r) → (m : r < 2 ^ 62) → HasValue (of_bits binary32 c) (leb (2 ^ 31) (t * 2 ^ 31 + sine_at r)) (mant (r * 2 ^ count_leading_zeros 64 r / 2 ^ 32 * ratio_of r) * 2 ^ exponent r l m) (2 ^ 149)
unfolding sine_at
sine-value c t r e l m =
    let p = r * 2 ^ count_leading_zeros 64 r / 2 ^ 32 * ratio_of r in
    let z = packed r (lt_of_lt_of_le (lit< tt) l) m in
    let R = rounded p z.big z.fits in
    subst (λ (x : ℕ). HasValue (of_bits binary32 x) (leb (2 ^ 31) (t * 2 ^ 31 + sine_at r)) (mant p * 2 ^ exponent r l m) (2 ^ 149)) (sym e)
    (value (t * 2 ^ 31 + sine_at r) (exponent r l m) (mant p) (rest t (count_leading_zeros 64 p) (count_leading_zeros 64 r) (mant p) R.few (top_of r (lt_of_lt_of_le (lit< tt) l) (le_trans m (lit≤ tt))).few R.most) R.least R.most (fine (count_leading_zeros 64 p) (count_leading_zeros 64 r)))
  where
    rest : (t z k m : ℕ) → z ≤ 33 → k ≤ 63 → m ≤ 2 ^ 24 → (t * 2 ^ 31 + ((133 - z) * 2 ^ 23 + m - (k + 5) * 2 ^ 23)) % 2 ^ 31 ≡ (133 - z - (k + 5)) * 2 ^ 23 + m
    rest t z k m f h u = omega arith

    fine : (z k : ℕ) → 133 - z - (k + 5) < 253
    fine z k = omega arith

near-folded : (w : Wave) (b : ℕ) (g : Bool) → b < 2 ^ 32 → 0x3980_0000 ≤ b % 2 ^ 31 → b % 2 ^ 31 ≤ 0x4080_0000 → Folded w b g → NearWave w (of_bits binary32 b) (of_bits binary32 (wave_bits w b))
near-folded w b g B l h F =
    let r = F.r in
    let p = r * 2 ^ count_leading_zeros 64 r / 2 ^ 32 * ratio_of r in
    let c = sign_at g (sign_of w b) in
    near-at w (leb (2 ^ 31) b) (leb (2 ^ 31) (c * 2 ^ 31 + sine_at r)) g (sign-agrees w g b (sine_at r) B (sine-at-lt r (lt_of_lt_of_le (lit< tt) F.least) F.most)) (mag_of (b % 2 ^ 31)) (mant p * 2 ^ exponent r F.least F.most)
    (of_bits binary32 b) (of_bits binary32 (wave_bits w b)) (x-value b l h) (sine-value (wave_bits w b) c r (large-bits w b l h ∙ F.bits) F.least F.most)
    (rounds r F.least F.most g (Kat (shift w)) (mag_of (b % 2 ^ 31)) (2 ^ 61) (start w (mag_of (b % 2 ^ 31))) (start w (2 ^ 61)) 9 F.near)

near-large : (w : Wave) (b : ℕ) → b < 2 ^ 32 → 0x3980_0000 ≤ b % 2 ^ 31 → b % 2 ^ 31 ≤ 0x4080_0000 → NearWave w (of_bits binary32 b) (of_bits binary32 (wave_bits w b))
near-large sine b B l h =
    split quarter_turn (mag_of (b % 2 ^ 31))
    (λ k. split half_turn (mag_of (b % 2 ^ 31)) (λ j. near-folded sine b false B l h (sine-above b h j)) (λ j. near-folded sine b true B l h (sine-below b h k j)))
    (λ k. near-folded sine b true B l h (direct b h k))
near-large cosine b B l h =
    split quarter_turn (mag_of (b % 2 ^ 31))
    (λ k. split half_turn (mag_of (b % 2 ^ 31)) (λ j. near-folded cosine b false B l h (cosine-beyond b h j)) (λ j. near-folded cosine b false B l h (cosine-above b h k j)))
    (λ k. near-folded cosine b true B l h (cosine-below b h k))

-- ---- below 2 ^ -12 the sine is x itself, but for x³ / 6, and the cosine 1, but for x² / 2. v is |x| in units of 2 ^ -149, and w the unit just below it
-- |x|² is at most 2 ^ -24
sq_small : (n d : ℕ) → n * 2 ^ 12 ≤ d → n * n * 2 ^ 24 ≤ d * d
sq_small n d small = omega (arith, mul-le-mul small small)

-- so the terms fall
falls-small : (n d : ℕ) → n * 2 ^ 12 ≤ d → (w : Wave) (k : ℕ) → 2 * 1 ≤ k → n * n ≤ d * d * Kat (shift w) k
falls-small n d small w k l = le_trans (mul-le-mul n≤d n≤d) (le-mul_of_pos_right (d * d) (positive (shift w)))
  where
    n≤d : n ≤ d
    n≤d = omega arith

    positive : (o : ℕ) → 0 < Kat o k
    positive o = omega arith

module _ (n d v w m : ℕ) (D : 0 < d) (e : n * m ≡ v * d) (small : n * 2 ^ 12 ≤ d) (W : v ≤ w * 2 ^ 24) where
  -- |x|³ is at most w
  cube : v * (n * n) ≤ w * (d * d)
  cube = omega (arith, mul-le-mul_right (n * n) W, mul-le-mul_left w (sq_small n d small))

  exact : n * m * (d * d * (d * d)) ≡ v * d * (d * d * (d * d))
  exact = ap (λ (x : ℕ). x * (d * d * (d * d))) e

  low₁ : Low Ksin n d (16 * m) (16 * v) 0 (15 * w) (sums Ksin n d n d 1)
  unfolding sums
  low₁ = omega (arith, exact, mul-le-mul_right (d * (d * d)) cube, ap (λ (x : ℕ). x * (n * n * (d * d))) e)

  high₁ : High Ksin n d (16 * m) (16 * v) 0 (15 * w) (sums Ksin n d n d 1)
  unfolding sums
  high₁ = omega (arith, exact, mul-le-mul_right (m * (n * n * n)) (sq_small n d small))

  limit₁ : Limit Ksin n d n d 9 (16 * m) (16 * v) 0 (15 * w)
  limit₁ = later Ksin n d n d 1 9 (16 * m) (16 * v) 0 (15 * w) (lit≤ tt) (limit Ksin n d (16 * m) (16 * v) 0 (15 * w) n d 1 (falls-small n d small sine) low₁ high₁)

module _ (n d : ℕ) (small : n * 2 ^ 12 ≤ d) where
  cos-low : (w : ℕ) → Low Kcos n d (16 * (w * 2 ^ 24)) (16 * (w * 2 ^ 24)) 0 (15 * w) (sums Kcos n d 1 1 1)
  unfolding sums
  cos-low w = omega (arith, mul-le-mul_right (w * (d * d)) (sq_small n d small))

  cos-high : (w : ℕ) → High Kcos n d (16 * (w * 2 ^ 24)) (16 * (w * 2 ^ 24)) 0 (15 * w) (sums Kcos n d 1 1 1)
  unfolding sums
  cos-high w = omega (arith, mul-le-mul_right (w * (n * n)) (sq_small n d small))

  cos-limit : Limit Kcos n d 1 1 9 (16 * 2 ^ 149) (16 * 2 ^ 149) 0 (15 * 2 ^ 125)
  cos-limit = later Kcos n d 1 1 1 9 (16 * 2 ^ 149) (16 * 2 ^ 149) 0 (15 * 2 ^ 125) (lit≤ tt) (limit Kcos n d (16 * 2 ^ 149) (16 * 2 ^ 149) 0 (15 * 2 ^ 125) 1 1 1 (falls-small n d small cosine) (cos-low (2 ^ 125)) (cos-high (2 ^ 125)))

-- sums within the unit just below are near enough to both sides
sided_small : (K : ℕ → ℕ) (n d a b v : ℕ) → Limit K n d a b 9 unity (16 * v) 0 (15 * 2 ^ (size (v - 1) - 24)) → SidedAt true K n d a b 9 v
sided_small K n d a b v L = limit-either true K n d a b 9 unity (16 * v) _ 1 v _ _ (low v _) (high v _ _ (below_le v)) L
  where
    low : (v l : ℕ) → 16 * v + 15 * l * 1 ≤ 16 * v * 1 + 15 * l
    low v l = omega arith

    high : (v l h : ℕ) → l ≤ h → (16 * v + 15 * l) * 1 ≤ 16 * v + 15 * h
    high v l h k = omega arith

small_at : (w : Wave) (b : ℕ) (s : Bool) (v m : ℕ) (a : Bool) (e : ℤ) → of_bits binary32 b ≡ fin a m e → HasValue (fin a m e) s v (2 ^ 149) → m * up e * 2 ^ 12 ≤ down e → NearWave w (fin a m e) (of_bits binary32 (at_small w b))
unfolding size
small_at sine b s v m a e E h sm =
    let n = m * up e in
    let d = down e in
    subst (λ (r : Float). NearWave sine (fin a m e) r) (sym E)
    (subst₂ (λ (y : Bool) (z : ℕ). SidedAt y Ksin n d n d 9 z) (sym (same_sign a)) (sym (steps-is (fin a m e) s v h)) (sided_small Ksin n d n d v (limit₁ n d v (2 ^ (size (v - 1) - 24)) (2 ^ 149) (down_pos e) h.1 sm (below_ulps v))))
small_at cosine b s v m a e E h sm = subst (λ (r : Float). NearWave cosine (fin a m e) r) (sym one_f32_is) (sided_small Kcos (m * up e) (down e) 1 1 (2 ^ 149) (cos-limit (m * up e) (down e) sm))

near-small : (w : Wave) (b : ℕ) (s : Bool) (v : ℕ) (x : Float) → of_bits binary32 b ≡ x → HasValue x s v (2 ^ 149) → v ≤ 2 ^ 137 → NearWave w x (of_bits binary32 (at_small w b))
near-small w b s v nan E h k = absurd h
near-small w b s v (inf a) E h k = absurd h
near-small w b s v (fin a m e) E h k =
    let n = m * up e in
    let d = down e in
    small_at w b s v m a e E h (le_of_mul-le-mul_right {k = 2 ^ 137} (le_trans (le_of_eq (mul_assoc n (2 ^ 12) (2 ^ 137) ∙ h.1)) (le_trans (mul-le-mul_right d k) (le_of_eq (mul_comm (2 ^ 137) d)))) (pow_pos 137))

-- ---- outside -4 to 4, and at NaN
near-outside : (w : Wave) (b : ℕ) → 0x4080_0000 < b % 2 ^ 31 → NearWave w (of_bits binary32 b) nan
near-outside w b h =
    split (b % 2 ^ 31) 0x7f80_0000
    (λ l. let v = finite-value b l in far (of_bits binary32 b) (leb (2 ^ 31) b) v.0 v.1 (size-lt 0x4080_0000 (b % 2 ^ 31) (2 ^ 151) v.0 (inr (lit≤ tt, refl)) v.2 h))
    (λ l. subst (λ (x : Float). NearWave w x nan) (sym (bits-255 b (top (b % 2 ^ 31) l (omega arith)))) (ends (eqb (b % 2 ^ 23) 0) (leb (2 ^ 31) b)))
  where
    top : (a : ℕ) → 0x7f80_0000 ≤ a → a < 2 ^ 31 → a / 2 ^ 23 ≡ 255
    top a l u = omega arith

    ends : (t s : Bool) → NearWave w (cond t (inf s) nan) nan
    ends true s = refl
    ends false s = refl

    far : (x : Float) (s : Bool) (v : ℕ) → HasValue x s v (2 ^ 149) → 2 ^ 151 < v → NearWave w x nan
    far nan s v g k = refl
    far (inf t) s v g k = refl
    far (fin t m e) s v g k = lt_of_not-le (λ (l : m * up e ≤ 4 * down e). not-le_of_lt k (le_of_mul-le-mul_right {k = down e} (le_trans (le_of_eq (sym g.1)) (le_trans (mul-le-mul_right (2 ^ 149) l) (le_of_eq (go (down e))))) (down_pos e)))
      where
        times : (d F : ℕ) → 4 * d * F ≡ 4 * F * d
        times d F = omega arith

        go : (d : ℕ) → 4 * d * 2 ^ 149 ≡ 2 ^ 151 * d
        go d = times d (2 ^ 149)

near-bits : (w : Wave) (b : ℕ) → b < 2 ^ 32 → NearWave w (of_bits binary32 b) (of_bits binary32 (wave_bits w b))
near-bits w b B =
    split (b % 2 ^ 31) 0x3980_0000
    (λ l.
    let v = v-small b l in
    subst (λ (c : ℕ). NearWave w (of_bits binary32 b) (of_bits binary32 c)) (sym (small-bits w b l)) (near-small w b (leb (2 ^ 31) b) v.0 (of_bits binary32 b) refl v.1 v.2))
    (λ l. split 0x4080_0000 (b % 2 ^ 31) (λ h. subst (λ (r : Float). NearWave w (of_bits binary32 b) r) (sym (ap (of_bits binary32) (outside-bits w b h) ∙ the-nan)) (near-outside w b h)) (λ h. near-large w b B l h))

near-wave : (w : Wave) (x : Float) → T (fits binary32 x) → NearWave w x (of_bits binary32 (wave_bits w (to_bits binary32 x)))
near-wave w x F = subst (λ (y : Float). NearWave w y (of_bits binary32 (wave_bits w (to_bits binary32 x)))) (of_bits-to_bits binary32 x F) (near-bits w (to_bits binary32 x) (to_bits-lt binary32 x F))

-- the theorems, for every f32
pub sin-near : SinNear
unfolding sin_of
sin-near x F = is-sin x (of_bits binary32 (wave_bits sine (to_bits binary32 x))) (near-wave sine x F)

pub cos-near : CosNear
unfolding cos_of
cos-near x F = is-cos x (of_bits binary32 (wave_bits cosine (to_bits binary32 x))) (near-wave cosine x F)
