-- `asin_of x` is less than one unit in the last place from the arc sine of x, for every f32; to the side of 0 the unit is that just below the result.
-- From 2 ^ -12 on the tangents at the two ends of the rounded angle show it, below that x³ / 6 is a small part of a unit, and at 1 the ends lie on either side of half pi.
use mathlib.Core.Path.{◌≡◌, refl, sym, ap, ◌∙◌, subst, subst₂}
use mathlib.Core.Logic.{◌⊎◌, inl, inr}
use mathlib.Core.Bool.{Bool, true, false, cond}
use Prim.Native.Nat.{ℕ, zero, suc, ◌+◌, ◌-◌, ◌*◌, ◌/◌, ◌%◌, ◌^◌, ◌≤◌, ◌<◌}
use native.Mathlib.Nat.{le_trans, le_of_eq, le_of_lt, le_refl, lt_of_le_of_lt, lt_of_not-le, not-le_of_lt, mul_assoc, mul_comm, mul_right_comm, mul-one, mul-le-mul, mul-le-mul_left, mul-le-mul_right, le_of_mul-le-mul_right, eq_of_mul-eq-mul_right, add-le-add}
use native.Mathlib.Omega.{arith}
use lib.Dec.{leb, eqb, lit<, lit≤}
use lib.Pow.{pow_pos}
use lib.Ieee.{Float, nan, inf, fin, binary32, up, down, size, of_bits, to_bits}
use lib.Ieee.Fits.{down_pos}
use lib.Ieee.Bits.{of_bits-to_bits, to_bits-lt}
use lib.Ieee.Exact.{HasValue}
use Rattle.series.specs.Series.{full, num, class, SinLe, SinGe, SineAtMost, SineAtLeast, CosineNotNegative, CosineNotPositive}
use Rattle.scalar.proofs.Nan.{the-nan}
use Rattle.cases.proofs.Cases.{split}
use Rattle.series.proofs.Waves.{Enc4}
use Rattle.series.proofs.Bounds.{cos-plus, cos-minus, sine-le, sine-ge, enc-scaled}
use Rattle.fixed.specs.Fixed.{mant, pattern, digits}
use Rattle.fixed.proofs.Round.{place, pattern_lt, grain}
use Rattle.fixed.proofs.Values.{value, v-small, ulps, bits-255, packed-value, normal-value, sign-plus}
use Rattle.fixed.proofs.Sizes.{finite-value, size-lt}
use Rattle.scalar.specs.Root.{steps}
use Rattle.exact_arcs.specs.Asin.{NearAsin, AsinNear}
use Rattle.scalar.proofs.Patterns.{steps-is}
use Rattle.exact.proofs.Unit.{below_ulps}
use Rattle.exact_arcs.proofs.Below.{Below, below, small_unit, small_below, small_room}
use Rattle.arcs.specs.Asin.{sixth_of, arc_of, asin_mag, asin_bits, asin_of}
use Rattle.arcs.proofs.Cosine.{Cosine}
use Rattle.arcs.proofs.Angle.{Sizes, sizes, v, high_is}
use Rattle.arcs.proofs.AsinBits.{mag-fits, small-bits, mid-bits, one-bits, outside-bits}
use Rattle.arc_bounds.proofs.Ends.{small-cos, small-sine-le, small-sine-ge, half-plus, half-minus, half-sine}
use Rattle.arc_bounds.proofs.Fine.{fine, enc}
use Rattle.arc_bounds.proofs.AsinEnds.{Turned, end-2, lower, upper}
use Rattle.arc_bounds.proofs.AsinCases.{case}
use Rattle.arc_bounds.proofs.SineRoom.{cos-low, sine-low, either-high}

-- ---- what is asked of the value v of r, in units of 2 ^ -149, where |x| = n / c
pub record Within (n c v : ℕ) : Type 0 where
  pub top : n ≤ c
  pub two : 16 * v + 15 * 2 ^ (size v - 24) ≤ 2 * (16 * 2 ^ 149)
  pub plus : CosineNotNegative (16 * v - 15 * 2 ^ (size (v - 1) - 24)) (16 * 2 ^ 149)
  pub low : SineAtMost (16 * v - 15 * 2 ^ (size (v - 1) - 24)) (16 * 2 ^ 149) n c
  pub high : SineAtLeast (16 * v + 15 * 2 ^ (size v - 24)) (16 * 2 ^ 149) n c ⊎ CosineNotPositive (16 * v + 15 * 2 ^ (size v - 24)) (16 * 2 ^ 149)

-- of x only its value counts
le_same : (y d n c n' c' : ℕ) → 0 < c → n' * c ≡ n * c' → SineAtMost y d n c → SineAtMost y d n' c'
le_same y d n c n' c' P e L = (L.0, λ k h. go (num (class 1) y d k) (num (class 3) y d k) (full d k) (L.1 k h))
  where
    go : (a b f : ℕ) → a * c ≤ b * c + n * f → a * c' ≤ b * c' + n' * f
    go a b f h = le_of_mul-le-mul_right {k = c} (omega (arith, mul-le-mul_right c' h, ap (λ (x : ℕ). x * f) e)) P

ge-same : (y d n c n' c' : ℕ) → 0 < c → n' * c ≡ n * c' → SineAtLeast y d n c → SineAtLeast y d n' c'
ge-same y d n c n' c' P e L = (L.0, λ k h. go (num (class 1) y d k) (num (class 3) y d k) (full d k) (L.1 k h))
  where
    go : (a b f : ℕ) → b * c + n * f ≤ a * c → b * c' + n' * f ≤ a * c'
    go a b f h = le_of_mul-le-mul_right {k = c} (omega (arith, mul-le-mul_right c' h, ap (λ (x : ℕ). x * f) e)) P

same : (n c n' c' v : ℕ) → 0 < c → n' * c ≡ n * c' → Within n c v → Within n' c' v
same n c n' c' v P e W =
    record {
      top = le_of_mul-le-mul_right {k = c} (le_trans (le_of_eq e) (le_trans (mul-le-mul_right c' W.top) (le_of_eq (mul_comm c c')))) P;
      two = W.two;
      plus = W.plus;
      low = le_same (16 * v - 15 * 2 ^ (size (v - 1) - 24)) (16 * 2 ^ 149) n c n' c' P e W.low;
      high = go W.high;
    }
  where
    go : SineAtLeast (16 * v + 15 * 2 ^ (size v - 24)) (16 * 2 ^ 149) n c ⊎ CosineNotPositive (16 * v + 15 * 2 ^ (size v - 24)) (16 * 2 ^ 149) → SineAtLeast (16 * v + 15 * 2 ^ (size v - 24)) (16 * 2 ^ 149) n' c' ⊎ CosineNotPositive (16 * v + 15 * 2 ^ (size v - 24)) (16 * 2 ^ 149)
    go (inl h) = inl (ge-same (16 * v + 15 * 2 ^ (size v - 24)) (16 * 2 ^ 149) n c n' c' P e h)
    go (inr h) = inr h

-- from values to nearness: z is |x| in units of 2 ^ -149, and z = n * k, 2 ^ 149 = c * k
near-at : (s : Bool) (z n c k v : ℕ) → 0 < c → 0 < k → c * k ≡ 2 ^ 149 → z ≡ n * k → Within n c v → (x r : Float) → HasValue x s z (2 ^ 149) → HasValue r s v (2 ^ 149) → NearAsin x r
near-at s z n c k v C K e f W nan r h g = absurd h
near-at s z n c k v C K e f W (inf a) r h g = absurd h
near-at s z n c k v C K e f W (fin a m i) nan h g = absurd g
near-at s z n c k v C K e f W (fin a m i) (inf b) h g = absurd g
near-at s z n c k v C K e f W (fin a m i) (fin b l j) h g =
    let st : v ≡ steps (fin b l j) = sym (steps-is (fin b l j) s v g) in
    let x : m * up i * c ≡ n * down i = eq_of_mul-eq-mul_right k K (m * up i * c) (n * down i) (mul_assoc (m * up i) c k ∙ ap (λ (y : ℕ). m * up i * y) e ∙ h.1 ∙ ap (λ (y : ℕ). y * down i) f ∙ mul_right_comm n k (down i)) in
    let W' : Within (m * up i) (down i) v = same n c (m * up i) (down i) v C x W in (
      h.0 ∙ sym g.0,
      W'.top,
      subst (λ (y : ℕ). 16 * y + 15 * 2 ^ (size y - 24) ≤ 2 * (16 * 2 ^ 149)) st W'.two,
      subst (λ (y : ℕ). CosineNotNegative (16 * y - 15 * 2 ^ (size (y - 1) - 24)) (16 * 2 ^ 149)) st W'.plus,
      subst (λ (y : ℕ). SineAtMost (16 * y - 15 * 2 ^ (size (y - 1) - 24)) (16 * 2 ^ 149) (m * up i) (down i)) st W'.low,
      subst (λ (y : ℕ). SineAtLeast (16 * y + 15 * 2 ^ (size y - 24)) (16 * 2 ^ 149) (m * up i) (down i) ⊎ CosineNotPositive (16 * y + 15 * 2 ^ (size y - 24)) (16 * 2 ^ 149)) st W'.high,
    )

-- ---- from 2 ^ -12 on and below 1: x = X / 2 ^ 35
module _ (X r A s : ℕ) (T : Turned X r A s) (C : Cosine X r) (X-lt : X < 2 ^ 35) (big : 2 ^ 30 ≤ arc_of A s) (fits : arc_of A s < 2 ^ 64) where
  abbrev S : ℕ
  S = arc_of A s

  abbrev O : ℕ
  O = grain S

  abbrev u : ℕ
  u = v S

  Z : Sizes S (mant S * O) O u
  Z = sizes S big fits

  r-pos : 1 ≤ r
  r-pos = split r 1 (λ l. absurd (no r l C.high)) (λ l. l)
    where
      no : (r : ℕ) → r < 1 → 2 ^ 70 ≤ (8 * r + 8) * (8 * r + 8) + X * X → ⊥
      no zero l h = let a : X ≤ 2 ^ 35 - 1 = omega arith in omega (arith, h, mul-le-mul a a)
      no (suc r) l h = impossible r l
        where
          impossible : (r : ℕ) → suc r < 1 → ⊥
          impossible r l = omega arith

  back : 8 * r - 8 + 8 ≡ 8 * r
  back = go r r-pos
    where
      go : (r : ℕ) → 1 ≤ r → 8 * r - 8 + 8 ≡ 8 * r
      go r h = omega arith

  -- the sizes of the lower end
  L : Below S
  L = below S (go (sixth_of s) T.large) fits
    where
      go : (j : ℕ) → 2 ^ 43 ≤ A + s → 2 ^ 34 ≤ A + (s + j)
      go j h = omega arith

  y₁ : ℕ
  y₁ = 64 * L.p - 60 * L.v

  y₂ : ℕ
  y₂ = 64 * (mant S * O) + 60 * u

  y₂-most : y₂ ≤ 2 ^ 57
  unfolding y₂
  y₂-most = end-2 X r A s (mant S * O) O u T Z

  least : (p v : ℕ) → Sizes S p O v → 2 ^ 42 ≤ 64 * p - 60 * v
  least p v Z = go (sixth_of s) Z.s-under T.large
    where
      go : (j : ℕ) → A + (s + j) ≤ 64 * p + 32 * O → 2 ^ 43 ≤ A + s → 2 ^ 42 ≤ 64 * p - 60 * v
      go j a e = omega (arith, a, e, Z.p-least, Z.v-o)

  less : (a b : ℕ) → a - b ≤ a + b
  less a b = omega arith

  y₁-least : 2 ^ 42 ≤ y₁
  unfolding y₁
  y₁-least = least L.p L.v L.sizes

  y₁-most : y₁ ≤ 2 ^ 57
  unfolding y₁
  y₁-most = le_trans (less (64 * L.p) (60 * L.v)) (end-2 X r A s L.p O L.v T L.sizes)

  y₂-least : 2 ^ 42 ≤ y₂
  unfolding y₂
  y₂-least = le_trans (least (mant S * O) u Z) (less (64 * (mant S * O)) (60 * u))

  tan-low : SinLe y₁ (2 ^ 56) X (8 * r + 16)
  unfolding y₁
  tan-low = lower X r A s L.p O L.v T L.sizes C

  tan-high : SinGe y₂ (2 ^ 56) X (8 * r - 8)
  unfolding y₂
  tan-high = upper X r A s (mant S * O) O u T Z C (8 * r - 8) back

  -- the sharp enclosures in the statement's unit
  abbrev Enclosed : ℕ → Type 0
  Enclosed y = Enc4 (y * 2 ^ 97) (2 ^ 56 * 2 ^ 97) (2 ^ 110) (fine 0 y) (fine 1 y) (fine 2 y) (fine 3 y) (fine 0 y + 2) (fine 1 y + 2) (fine 2 y + 2) (fine 3 y + 2)

  enclosed : (y : ℕ) → 2 ^ 42 ≤ y → y ≤ 2 ^ 57 → Enclosed y
  enclosed y l h = enc-scaled y (2 ^ 56) (2 ^ 97) (2 ^ 110) (fine 0 y) (fine 1 y) (fine 2 y) (fine 3 y) (fine 0 y + 2) (fine 1 y + 2) (fine 2 y + 2) (fine 3 y + 2) (enc y l h)

  plus-at : CosineNotNegative (y₁ * 2 ^ 97) (16 * 2 ^ 149)
  plus-at = cos-plus (y₁ * 2 ^ 97) (16 * 2 ^ 149) (2 ^ 110) (fine 0 y₁) (fine 1 y₁) (fine 2 y₁) (fine 3 y₁) (fine 0 y₁ + 2) (fine 1 y₁ + 2) (fine 2 y₁ + 2) (fine 3 y₁ + 2) (pow_pos 153) (pow_pos 110) (enclosed y₁ y₁-least y₁-most) (cos-low y₁ X r y₁-least y₁-most C X-lt tan-low)

  low-at : SineAtMost (y₁ * 2 ^ 97) (16 * 2 ^ 149) X (2 ^ 35)
  low-at = sine-le (y₁ * 2 ^ 97) (16 * 2 ^ 149) (2 ^ 110) (fine 0 y₁) (fine 1 y₁) (fine 2 y₁) (fine 3 y₁) (fine 0 y₁ + 2) (fine 1 y₁ + 2) (fine 2 y₁ + 2) (fine 3 y₁ + 2) (pow_pos 153) (pow_pos 110) (enclosed y₁ y₁-least y₁-most) X (2 ^ 35) (sine-low y₁ X r y₁-least y₁-most C X-lt tan-low)

  high-at : SineAtLeast (y₂ * 2 ^ 97) (16 * 2 ^ 149) X (2 ^ 35) ⊎ CosineNotPositive (y₂ * 2 ^ 97) (16 * 2 ^ 149)
  high-at = go (either-high y₂ X r y₂-least y₂-most C X-lt (8 * r - 8) back tan-high)
    where
      go : (fine 0 y₂ + 2 ≤ fine 2 y₂) ⊎ ((fine 3 y₂ + 2) * 2 ^ 35 + X * 2 ^ 110 ≤ fine 1 y₂ * 2 ^ 35) → SineAtLeast (y₂ * 2 ^ 97) (16 * 2 ^ 149) X (2 ^ 35) ⊎ CosineNotPositive (y₂ * 2 ^ 97) (16 * 2 ^ 149)
      go (inl h) = inr (cos-minus (y₂ * 2 ^ 97) (16 * 2 ^ 149) (2 ^ 110) (fine 0 y₂) (fine 1 y₂) (fine 2 y₂) (fine 3 y₂) (fine 0 y₂ + 2) (fine 1 y₂ + 2) (fine 2 y₂ + 2) (fine 3 y₂ + 2) (pow_pos 153) (pow_pos 110) (enclosed y₂ y₂-least y₂-most) h)
      go (inr h) = inl (sine-ge (y₂ * 2 ^ 97) (16 * 2 ^ 149) (2 ^ 110) (fine 0 y₂) (fine 1 y₂) (fine 2 y₂) (fine 3 y₂) (fine 0 y₂ + 2) (fine 1 y₂ + 2) (fine 2 y₂ + 2) (fine 3 y₂ + 2) (pow_pos 153) (pow_pos 110) (enclosed y₂ y₂-least y₂-most) X (2 ^ 35) h)

  within : Within X (2 ^ 35) (mant S * place S)
  unfolding y₁ y₂
  within =
      record {
        top = le_of_lt X-lt;
        two = subst (λ (y : ℕ). y ≤ 2 * (16 * 2 ^ 149)) (high_is S big fits) (mul-le-mul_right (2 ^ 97) y₂-most);
        plus = subst (λ (y : ℕ). CosineNotNegative y (16 * 2 ^ 149)) L.is plus-at;
        low = subst (λ (y : ℕ). SineAtMost y (16 * 2 ^ 149) X (2 ^ 35)) L.is low-at;
        high = subst (λ (y : ℕ). SineAtLeast y (16 * 2 ^ 149) X (2 ^ 35) ⊎ CosineNotPositive y (16 * 2 ^ 149)) (high_is S big fits) high-at;
      }

near-mid : (b : ℕ) → 0x3980_0000 ≤ b % 2 ^ 31 → b % 2 ^ 31 < 0x3f80_0000 → NearAsin (of_bits binary32 b) (of_bits binary32 (asin_bits b))
near-mid b l h =
    let a = b % 2 ^ 31 in
    let D = case a l h in
    let s = asin_mag a in
    let w = mag-fits a l h in
    let W : Within D.X (2 ^ 35) (mant s * place s) = subst (λ (y : ℕ). Within D.X (2 ^ 35) (mant y * place y)) (sym D.is) (within D.X D.r D.A D.s D.turned D.cosine D.X-lt (subst (λ (y : ℕ). 2 ^ 30 ≤ y) D.is w.0) (subst (λ (y : ℕ). y < 2 ^ 64) D.is w.1)) in
    near-at (leb (2 ^ 31) b) (digits a * 2 ^ (a / 2 ^ 23 - 1)) D.X (2 ^ 35) (2 ^ 114) (mant s * place s) (pow_pos 35) (pow_pos 114) refl D.value W
    (of_bits binary32 b) (of_bits binary32 (asin_bits b)) (normal-value b (le_trans (lit≤ tt) l) (lt_of_le_of_lt (le_of_lt h) (lit< tt)))
    (subst (λ (g : Bool). HasValue (of_bits binary32 (asin_bits b)) g (mant s * place s) (2 ^ 149)) (sign-plus b (pattern s) (pattern_lt s w.0 w.1))
    (packed-value (asin_bits b) s (b / 2 ^ 31) (mid-bits b l h) w.0 w.1))

-- ---- at 1
one-within : Within 1 1 (13176795 * 2 ^ 126)
unfolding size
one-within = record { top = le_refl 1; two = lit≤ tt; plus = half-plus; low = half-sine 1; high = inr half-minus }

near-one : (b : ℕ) → b % 2 ^ 31 ≡ 0x3f80_0000 → NearAsin (of_bits binary32 b) (of_bits binary32 (asin_bits b))
near-one b e =
    near-at (leb (2 ^ 31) b) (digits (b % 2 ^ 31) * 2 ^ (b % 2 ^ 31 / 2 ^ 23 - 1)) 1 1 (2 ^ 149) (13176795 * 2 ^ 126) (lit< tt) (pow_pos 149) refl (ap (λ (a : ℕ). digits a * 2 ^ (a / 2 ^ 23 - 1)) e) one-within
    (of_bits binary32 b) (of_bits binary32 (asin_bits b)) (normal-value b (le_trans (lit≤ tt) (le_of_eq (sym e))) (lt_of_le_of_lt (le_of_eq e) (lit< tt)))
    (subst₂ (λ (c : ℕ) (g : Bool). HasValue (of_bits binary32 c) g (13176795 * 2 ^ 126) (2 ^ 149)) (sym (one-bits b (le_of_eq (sym e)) (le_of_eq e))) (sign-plus b 0x3fc9_0fdb (lit< tt))
    (value (b / 2 ^ 31 * 2 ^ 31 + 0x3fc9_0fdb) 126 13176795 (rest (b / 2 ^ 31)) (lit≤ tt) (lit≤ tt) (lit< tt)))
  where
    rest : (t : ℕ) → (t * 2 ^ 31 + 0x3fc9_0fdb) % 2 ^ 31 ≡ 126 * 2 ^ 23 + 13176795
    rest t = omega arith

-- ---- below 2 ^ -12
small-within : (w : ℕ) → w ≤ 2 ^ 137 → Within (16 * w) (16 * 2 ^ 149) w
small-within w h =
    let u = 2 ^ (size w - 24) in
    let d = 2 ^ (size (w - 1) - 24) in
    let sv = small_room h in
    let sd = small_room (small_below w h) in
    record {
      top = le_trans (mul-le-mul_left 16 h) (lit≤ tt);
      two = le_trans (add-le-add (mul-le-mul_left 16 h) (mul-le-mul_left 15 (small_unit w h))) (lit≤ tt);
      plus = small-cos (16 * 2 ^ 149) w d (pow_pos 153) sv sd (below_ulps w) (pow_pos (size (w - 1) - 24));
      low = small-sine-le (16 * 2 ^ 149) w d (pow_pos 153) sv sd (below_ulps w) (pow_pos (size (w - 1) - 24));
      high = inl (small-sine-ge (16 * 2 ^ 149) w u (pow_pos 153) sv (small_room (small_unit w h)) (ulps w) (pow_pos (size w - 24)));
    }

sixteenth : (n c : ℕ) → n * (16 * c) ≡ 16 * n * c
sixteenth n c = omega arith

near-small : (b : ℕ) → b % 2 ^ 31 < 0x3980_0000 → NearAsin (of_bits binary32 b) (of_bits binary32 (asin_bits b))
near-small b l =
    let w = v-small b l in
    subst (λ (c : ℕ). NearAsin (of_bits binary32 b) (of_bits binary32 c)) (sym (small-bits b l))
    (near-at (leb (2 ^ 31) b) w.0 w.0 (2 ^ 149) 1 w.0 (pow_pos 149) (lit< tt) refl (sym (mul-one w.0))
    (same (16 * w.0) (16 * 2 ^ 149) w.0 (2 ^ 149) w.0 (pow_pos 153) (sixteenth w.0 (2 ^ 149)) (small-within w.0 w.2)) (of_bits binary32 b) (of_bits binary32 b) w.1 w.1)

-- ---- outside -1 to 1, and at NaN
near-outside : (b : ℕ) → 0x3f80_0000 < b % 2 ^ 31 → NearAsin (of_bits binary32 b) nan
near-outside b h =
    split (b % 2 ^ 31) 0x7f80_0000
    (λ l. let w = finite-value b l in far (of_bits binary32 b) (leb (2 ^ 31) b) w.0 w.1 (size-lt 0x3f80_0000 (b % 2 ^ 31) (2 ^ 149) w.0 (inr (lit≤ tt, refl)) w.2 h))
    (λ l. subst (λ (x : Float). NearAsin x nan) (sym (bits-255 b (top (b % 2 ^ 31) l (omega arith)))) (ends (eqb (b % 2 ^ 23) 0) (leb (2 ^ 31) b)))
  where
    top : (a : ℕ) → 0x7f80_0000 ≤ a → a < 2 ^ 31 → a / 2 ^ 23 ≡ 255
    top a l u = omega arith

    ends : (t s : Bool) → NearAsin (cond t (inf s) nan) nan
    ends true s = refl
    ends false s = refl

    far : (x : Float) (s : Bool) (w : ℕ) → HasValue x s w (2 ^ 149) → 2 ^ 149 < w → NearAsin x nan
    far nan s w g k = refl
    far (inf t) s w g k = refl
    far (fin t m e) s w g k = lt_of_not-le (λ (l : m * up e ≤ down e). not-le_of_lt k (le_of_mul-le-mul_right {k = down e} (le_trans (le_of_eq (sym g.1)) (le_trans (mul-le-mul_right (2 ^ 149) l) (le_of_eq (mul_comm (down e) (2 ^ 149))))) (down_pos e)))

near-bits : (b : ℕ) → b < 2 ^ 32 → NearAsin (of_bits binary32 b) (of_bits binary32 (asin_bits b))
near-bits b B =
    split (b % 2 ^ 31) 0x3980_0000 (λ l. near-small b l) (λ l.
    split (b % 2 ^ 31) 0x3f80_0000 (λ h. near-mid b l h) (λ h.
    split 0x3f80_0000 (b % 2 ^ 31) (λ g. subst (λ (r : Float). NearAsin (of_bits binary32 b) r) (sym (ap (of_bits binary32) (outside-bits b g) ∙ the-nan)) (near-outside b g)) (λ g. near-one b (meet (b % 2 ^ 31) h g))))
  where
    meet : (a : ℕ) → 0x3f80_0000 ≤ a → a ≤ 0x3f80_0000 → a ≡ 0x3f80_0000
    meet a l h = omega arith

-- the theorem, for every f32
pub asin-near : AsinNear
unfolding asin_of
asin-near x F = subst (λ (y : Float). NearAsin y (of_bits binary32 (asin_bits (to_bits binary32 x)))) (of_bits-to_bits binary32 x F) (near-bits (to_bits binary32 x) (to_bits-lt binary32 x F))
