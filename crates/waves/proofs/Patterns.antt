-- What the code of sine and cosine asks of plain numbers: the cases of the definition, and that the digits, the ratio and the pattern fit.
use mathlib.Core.Path.{◌≡◌, sym, ap, ap₂, ◌∙◌, subst}
use mathlib.Core.Bool.{Bool}
use Prim.Native.Nat.{ℕ, ◌+◌, ◌-◌, ◌*◌, ◌/◌, ◌%◌, ◌^◌, ◌≤◌, ◌<◌}
use native.Mathlib.Nat.{le_trans, le_of_eq, le_of_lt, mul-le-mul, mul-le-mul_right}
use native.Mathlib.Omega.{arith}
use lib.Dec.{leb, lit≤}
use lib.Pow.{shr_mono}
use lib.Count.{count_leading_zeros}
use borrow.Author.Tests.{le-ltb, lt-ltb, le-leb, lt-leb}
use Rattle.series.specs.Series.{Wave, sine, cosine}
use Rattle.fixed.specs.Fixed.{pick, mant, pattern}
use Rattle.fixed.proofs.Round.{rounded, pattern_lt, top_of}
use Rattle.cases.proofs.Cases.{split}
use Rattle.std.specs.Int.{abs_diff}
use Rattle.waves.specs.SinCos.{times, added, taken, square_of, ratio_of, sine_at, quarter_turn, half_turn, three_quarters, sin_fold, cos_fold, sin_sign, cos_sign, wave_at, mag_of, at_small, wave_bits}

-- ---- the three cases of the definition
abbrev folded_bits : Wave → ℕ → ℕ
folded_bits w b = wave_at w (b / 2 ^ 31) (mag_of (b % 2 ^ 31))

pub small-bits : (w : Wave) (b : ℕ) → b % 2 ^ 31 < 0x3980_0000 → wave_bits w b ≡ at_small w b
unfolding wave_bits
small-bits w b h = ap (λ (x : Bool). pick x (at_small w b) (pick (leb (b % 2 ^ 31) 0x4080_0000) (folded_bits w b) 0x7fc0_0000)) (lt-ltb _ _ h)

pub large-bits : (w : Wave) (b : ℕ) → 0x3980_0000 ≤ b % 2 ^ 31 → b % 2 ^ 31 ≤ 0x4080_0000 → wave_bits w b ≡ folded_bits w b
unfolding wave_bits
large-bits w b h k = ap₂ (λ (x y : Bool). pick x (at_small w b) (pick y (folded_bits w b) 0x7fc0_0000)) (le-ltb _ _ h) (le-leb _ _ k)

pub outside-bits : (w : Wave) (b : ℕ) → 0x4080_0000 < b % 2 ^ 31 → wave_bits w b ≡ 0x7fc0_0000
unfolding wave_bits
outside-bits w b h = ap₂ (λ (x y : Bool). pick x (at_small w b) (pick y (folded_bits w b) 0x7fc0_0000)) (le-ltb _ _ (le_trans (lit≤ tt) (le_of_lt h))) (lt-leb _ _ h)

-- ---- the folds
module _ (X : ℕ) where
  pub sin-kept : X ≤ quarter_turn → sin_fold X ≡ X
  sin-kept h = ap (λ (x : Bool). pick x X (abs_diff X half_turn)) (le-leb _ _ h)

  pub sin-left : quarter_turn < X → X ≤ half_turn → sin_fold X ≡ half_turn - X
  sin-left h k = ap (λ (x : Bool). pick x X (abs_diff X half_turn)) (lt-leb _ _ h) ∙ omega arith

  pub sin-past : half_turn < X → sin_fold X ≡ X - half_turn
  sin-past h = ap (λ (x : Bool). pick x X (abs_diff X half_turn)) (lt-leb _ _ (le_trans (lit≤ tt) h)) ∙ omega arith

  pub cos-left : X ≤ quarter_turn → cos_fold X ≡ quarter_turn - X
  cos-left h = ap (λ (x : Bool). pick x (abs_diff X quarter_turn) (three_quarters - X)) (le-leb _ _ (le_trans h (lit≤ tt))) ∙ omega arith

  pub cos-past : quarter_turn < X → X ≤ half_turn → cos_fold X ≡ X - quarter_turn
  cos-past h k = ap (λ (x : Bool). pick x (abs_diff X quarter_turn) (three_quarters - X)) (le-leb _ _ k) ∙ omega arith

  pub cos-last : half_turn < X → cos_fold X ≡ three_quarters - X
  cos-last h = ap (λ (x : Bool). pick x (abs_diff X quarter_turn) (three_quarters - X)) (lt-leb _ _ h)

  -- a multiple of 2 ^ 26 is no turn, so the angle is not 0; and it is below 2
  abbrev Angle : ℕ → Type 0
  Angle r = (0 < r) × (r < 2 ^ 62)

  pub sin-angle : 0 < X → X % 2 ^ 26 ≡ 0 → X ≤ 2 ^ 63 → Angle (sin_fold X)
  sin-angle p m h =
      split quarter_turn X
      (λ k. split half_turn X (λ j. subst Angle (sym (sin-past j)) (omega arith, omega arith)) (λ j. subst Angle (sym (sin-left k j)) (omega arith, omega arith)))
      (λ k. subst Angle (sym (sin-kept k)) (p, omega arith))

  pub cos-angle : X % 2 ^ 26 ≡ 0 → X ≤ 2 ^ 63 → Angle (cos_fold X)
  cos-angle m h =
      split quarter_turn X
      (λ k. split half_turn X (λ j. subst Angle (sym (cos-last j)) (omega arith, omega arith)) (λ j. subst Angle (sym (cos-past k j)) (omega arith, omega arith)))
      (λ k. subst Angle (sym (cos-left k)) (omega arith, omega arith))

  pub sin-sign-kept : (t : ℕ) → X ≤ half_turn → sin_sign t X ≡ t
  sin-sign-kept t h = ap (λ (x : Bool). pick x t (1 - t)) (le-leb _ _ h)

  pub sin-sign-turned : (t : ℕ) → half_turn < X → sin_sign t X ≡ 1 - t
  sin-sign-turned t h = ap (λ (x : Bool). pick x t (1 - t)) (lt-leb _ _ h)

  pub cos-sign-plus : X ≤ quarter_turn → cos_sign X ≡ 0
  cos-sign-plus h = ap (λ (x : Bool). pick x 0 1) (le-leb _ _ h)

  pub cos-sign-minus : quarter_turn < X → cos_sign X ≡ 1
  cos-sign-minus h = ap (λ (x : Bool). pick x 0 1) (lt-leb _ _ h)

  pub sin-sign-le : (t : ℕ) → t ≤ 1 → sin_sign t X ≤ 1
  sin-sign-le t h = split half_turn X (λ k. le_trans (le_of_eq (sin-sign-turned t k)) (omega arith)) (λ k. le_trans (le_of_eq (sin-sign-kept t k)) h)

  pub cos-sign-le : cos_sign X ≤ 1
  cos-sign-le = split quarter_turn X (λ k. le_of_eq (cos-sign-minus k)) (λ k. le_trans (le_of_eq (cos-sign-plus k)) (lit≤ tt))

  -- the answers
  module _ (t : ℕ) where
    answer : (s r s' r' : ℕ) → s ≡ s' → r ≡ r' → s * 2 ^ 31 + sine_at r ≡ s' * 2 ^ 31 + sine_at r'
    answer s r s' r' e g = ap₂ (λ (x y : ℕ). x * 2 ^ 31 + sine_at y) e g

    pub sin-direct : X ≤ quarter_turn → wave_at sine t X ≡ t * 2 ^ 31 + sine_at X
    sin-direct h = answer (sin_sign t X) (sin_fold X) t X (sin-sign-kept t (le_trans h (lit≤ tt))) (sin-kept h)

    pub sin-below : quarter_turn < X → X ≤ half_turn → wave_at sine t X ≡ t * 2 ^ 31 + sine_at (half_turn - X)
    sin-below h k = answer (sin_sign t X) (sin_fold X) t (half_turn - X) (sin-sign-kept t k) (sin-left h k)

    pub sin-above : half_turn < X → wave_at sine t X ≡ (1 - t) * 2 ^ 31 + sine_at (X - half_turn)
    sin-above h = answer (sin_sign t X) (sin_fold X) (1 - t) (X - half_turn) (sin-sign-turned t h) (sin-past h)

    pub cos-below : X ≤ quarter_turn → wave_at cosine t X ≡ 0 * 2 ^ 31 + sine_at (quarter_turn - X)
    cos-below h = answer (cos_sign X) (cos_fold X) 0 (quarter_turn - X) (cos-sign-plus h) (cos-left h)

    pub cos-above : quarter_turn < X → X ≤ half_turn → wave_at cosine t X ≡ 1 * 2 ^ 31 + sine_at (X - quarter_turn)
    cos-above h k = answer (cos_sign X) (cos_fold X) 1 (X - quarter_turn) (cos-sign-minus h) (cos-past h k)

    pub cos-beyond : half_turn < X → wave_at cosine t X ≡ 1 * 2 ^ 31 + sine_at (three_quarters - X)
    cos-beyond h = answer (cos_sign X) (cos_fold X) 1 (three_quarters - X) (cos-sign-minus (le_trans (lit≤ tt) h)) (cos-last h)

-- ---- products of fractions
pub times-le : (u v : ℕ) → u < 2 ^ 32 → times u v ≤ v
times-le u v h = omega (arith, mul-le-mul_right v (le_of_lt h))

pub product_le : (r u v : ℕ) → u < 2 ^ 32 → r ≡ times u v → r ≤ v
product_le r u v h e = le_trans (le_of_eq e) (times-le u v h)

pub times-lt : (u v : ℕ) → u < 2 ^ 32 → v < 2 ^ 32 → times u v < 2 ^ 32
times-lt u v h k = let l = times-le u v h in omega arith

pub square-lt : (r : ℕ) → r < 2 ^ 62 → r / 2 ^ 30 < 2 ^ 32
square-lt r h = omega arith

-- ---- the terms
pub taken-le : (w : ℕ) → w < 2 ^ 32 → taken w ≤ 2917961030
taken-le w h = go (times w 53) (times w (110180 + times w 53)) (times w (54539267 + times w (110180 + times w 53))) (times-le w 53 h) (times-le w (110180 + times w 53) h) (times-le w (54539267 + times w (110180 + times w 53)) h)
  where
    go : (x y z : ℕ) → x ≤ 53 → y ≤ 110180 + x → z ≤ 54539267 + y → 2863311530 + z ≤ 2917961030
    go x y z a b c = omega arith

-- ---- the ratio is from 2 ^ 30 to 2 ^ 32
pub record Ratio (r : ℕ) : Type 0 where
  pub least : 2 ^ 30 ≤ ratio_of r
  pub most : ratio_of r ≤ 2 ^ 32
  pub whole : times (square_of r) (taken (times (square_of r) (square_of r))) ≤ added (times (square_of r) (square_of r))

pub ratio-in : (r : ℕ) → r < 2 ^ 62 → Ratio r
unfolding ratio_of
ratio-in r h =
    let q = square-lt r h in
    let y = square_of r in
    let Y : y < 2 ^ 32 = times-lt (r / 2 ^ 30) (r / 2 ^ 30) q q in
    let w = times y y in
    let W : w < 2 ^ 32 = times-lt y y Y Y in
    let t : times y (taken w) ≤ taken w = times-le y (taken w) Y in
    let k : taken w ≤ 2917961030 = taken-le w W in
    let z = 572662306 + times w (3029959 + times w 2825) in
    let u : z ≤ taken w = inner w W in
    let v : times w z ≤ times y (taken w) = shr_mono 32 (mul-le-mul (times-le y y Y) u) in
    let g = go (times w z) (times y (taken w)) (taken w) v t k in
    record { least = g.0; most = g.1; whole = g.2 }
  where
    inner : (w : ℕ) → w < 2 ^ 32 → 572662306 + times w (3029959 + times w 2825) ≤ taken w
    inner w W = go' (times w 2825) (times w (3029959 + times w 2825)) (times w (54539267 + times w (110180 + times w 53))) (times-le w 2825 W) (times-le w (3029959 + times w 2825) W)
      where
        go' : (x y z : ℕ) → x ≤ 2825 → y ≤ 3029959 + x → 572662306 + y ≤ 2863311530 + z
        go' x y z a b = omega arith

    go : (x p k : ℕ) → x ≤ p → p ≤ k → k ≤ 2917961030 → (2 ^ 30 ≤ 2 ^ 32 + x - p) × (2 ^ 32 + x - p ≤ 2 ^ 32) × (p ≤ 2 ^ 32 + x)
    go x p k a b c = (omega arith, omega arith, omega arith)

-- ---- what is packed, and its pattern
pub record Packed (r : ℕ) : Type 0 where
  pub big : 2 ^ 30 ≤ r * 2 ^ count_leading_zeros 64 r / 2 ^ 32 * ratio_of r
  pub fits : r * 2 ^ count_leading_zeros 64 r / 2 ^ 32 * ratio_of r < 2 ^ 64
  pub room : (count_leading_zeros 64 r + 5) * 2 ^ 23 ≤ pattern (r * 2 ^ count_leading_zeros 64 r / 2 ^ 32 * ratio_of r)

pub packed : (r : ℕ) → 0 < r → r < 2 ^ 62 → Packed r
packed r p h =
    let t = top_of r p (omega arith) in
    let s = ratio-in r h in
    let g = go (r * 2 ^ count_leading_zeros 64 r) (ratio_of r) t.full t.fits s.least s.most in
    let R = rounded (r * 2 ^ count_leading_zeros 64 r / 2 ^ 32 * ratio_of r) g.0 g.1 in
    record { big = g.0; fits = g.1; room = room (count_leading_zeros 64 r) (count_leading_zeros 64 (r * 2 ^ count_leading_zeros 64 r / 2 ^ 32 * ratio_of r)) (mant (r * 2 ^ count_leading_zeros 64 r / 2 ^ 32 * ratio_of r)) t.few R.few }
  where
    go : (x s : ℕ) → 2 ^ 63 ≤ x → x < 2 ^ 64 → 2 ^ 30 ≤ s → s ≤ 2 ^ 32 → (2 ^ 30 ≤ x / 2 ^ 32 * s) × (x / 2 ^ 32 * s < 2 ^ 64)
    go x s a b c d = let m : x / 2 ^ 32 ≤ 2 ^ 32 - 1 = omega arith in let k : 1 ≤ x / 2 ^ 32 = omega arith in (omega (arith, mul-le-mul k c), omega (arith, mul-le-mul m d))

    room : (l z m : ℕ) → l ≤ 63 → z ≤ 33 → (l + 5) * 2 ^ 23 ≤ (133 - z) * 2 ^ 23 + m
    room l z m a b = omega arith

pub sine-at-lt : (r : ℕ) → 0 < r → r < 2 ^ 62 → sine_at r < 255 * 2 ^ 23
unfolding sine_at
sine-at-lt r p h = let k = packed r p h in go (pattern (r * 2 ^ count_leading_zeros 64 r / 2 ^ 32 * ratio_of r)) ((count_leading_zeros 64 r + 5) * 2 ^ 23) (pattern_lt (r * 2 ^ count_leading_zeros 64 r / 2 ^ 32 * ratio_of r) k.big k.fits)
  where
    go : (p k : ℕ) → p < 255 * 2 ^ 23 → p - k < 255 * 2 ^ 23
    go p k h = omega arith
