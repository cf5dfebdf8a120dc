-- `exp_of x` is less than one unit in its last place from e ^ x, below it less than one of the unit there, for every f32: by the cases of its pattern.
use mathlib.Core.Path.{◌≡◌, refl, sym, ap, ◌∙◌, subst, subst₂}
use mathlib.Core.Bool.{Bool, true, false, true≢false, false≢true}
use Prim.Native.Nat.{ℕ, ◌+◌, ◌-◌, ◌*◌, ◌/◌, ◌%◌, ◌^◌, ◌≤◌, ◌<◌}
use native.Mathlib.Nat.{le_trans, le_of_eq, le_refl, lt_of_lt_of_le, mul_assoc, mul_comm, mul_right_comm, mul-le-mul, mul-le-mul_right, le_of_mul-le-mul_right, eq_of_mul-eq-mul_right, div-le_of_le-mul}
use native.Mathlib.Omega.{arith}
use lib.Dec.{leb, lit<, lit≤}
use lib.Pow.{pow_pos, pow_mono, pow-add}
use borrow.Author.Tests.{le-leb, lt-leb}
use lib.Ieee.{Float, nan, inf, fin, binary32, up, down, of_bits, to_bits}
use lib.Ieee.Fits.{down_pos}
use lib.Ieee.Bits.{of_bits-to_bits, to_bits-lt}
use lib.Ieee.Exact.{HasValue}
use Rattle.series.specs.Series.{full, num, one}
use Rattle.cases.proofs.Cases.{split}
use Rattle.fixed.specs.Fixed.{scaled_of, digits}
use Rattle.fixed.proofs.Values.{value, value-normal, normal-value, subnormal}
use Rattle.exponential.specs.Tables.{ln2}
use Rattle.exponential.specs.Exp.{power_of, rounded_to24, lowered, grown, shrunk, exp_bits, exp_of}
use Rattle.exponential.proofs.ExpCases.{at-nan, at-tiny, at_top, at-plus, at-bottom, at-minus, lowered-normal, lowered-subnormal, scaled-ge, below-plus, below-minus}
use Rattle.exact_exponential.specs.Exp.{NearExp, ExpNear}
use Rattle.scalar.proofs.Nan.{nan_pattern, the-nan}
use Rattle.scalar.proofs.Sign.{plus-zero}
use Rattle.scalar.proofs.Patterns.{steps-is}
use Rattle.exponential_bounds.proofs.ExpPower.{power-ge, power_le, power-under}
use Rattle.exponential_bounds.proofs.ExpNear.{Sums, Recs, same-sums, same-recs, rounded-ge, near_up, near_down, near_sub}
use Rattle.exponential_bounds.proofs.ExpEnds.{past_top, past-bottom, tiny-up, tiny-down, last, last-enc}
use Rattle.exact_exponential.proofs.Special.{an-inf, minus-inf}

-- ---- from values to nearness. x is n / d
module _ (v X c : ℕ) where
  near-plus : (x r : Float) → HasValue x false X c → HasValue r false v (2 ^ 149) → ((n d : ℕ) → 0 < d → n * c ≡ X * d → Sums n d v) → NearExp x r
  near-plus nan r h k S = absurd h
  near-plus (inf a) r h k S = absurd h
  near-plus (fin a m e) nan h k S = absurd k
  near-plus (fin a m e) (inf b) h k S = absurd k
  near-plus (fin true m e) (fin b n f) h k S = absurd (true≢false h.0)
  near-plus (fin false m e) (fin true n f) h k S = absurd (true≢false k.0)
  near-plus (fin false m e) (fin false n f) h k S = subst (λ (z : ℕ). Sums (m * up e) (down e) z) (sym (steps-is (fin false n f) false v k)) (S (m * up e) (down e) (down_pos e) h.1)

  near-minus : (x r : Float) → HasValue x true X c → HasValue r false v (2 ^ 149) → ((n d : ℕ) → 0 < d → n * c ≡ X * d → Recs n d v) → NearExp x r
  near-minus nan r h k S = absurd h
  near-minus (inf a) r h k S = absurd h
  near-minus (fin a m e) nan h k S = absurd k
  near-minus (fin a m e) (inf b) h k S = absurd k
  near-minus (fin false m e) (fin b n f) h k S = absurd (false≢true h.0)
  near-minus (fin true m e) (fin true n f) h k S = absurd (true≢false k.0)
  near-minus (fin true m e) (fin false n f) h k S = subst (λ (z : ℕ). Recs (m * up e) (down e) z) (sym (steps-is (fin false n f) false v k)) (S (m * up e) (down e) (down_pos e) h.1)

near-inf : (X c : ℕ) (x : Float) → HasValue x false X c → ((n d : ℕ) → n * c ≡ X * d → (k : ℕ) × (2 ^ 128 * full d k ≤ num one n d k)) → NearExp x (inf false)
near-inf X c nan h S = absurd h
near-inf X c (inf a) h S = absurd h
near-inf X c (fin true m e) h S = absurd (true≢false h.0)
near-inf X c (fin false m e) h S = S (m * up e) (down e) h.1

-- ---- the value of x in units of 2 ^ -56, from 2 ^ -25 up
x-value : (b : ℕ) → 0x3300_0000 ≤ b % 2 ^ 31 → b % 2 ^ 31 < 0x7f80_0000 → HasValue (of_bits binary32 b) (leb (2 ^ 31) b) (scaled_of (b % 2 ^ 31) 94 * 2 ^ 93) (2 ^ 149)
x-value b l h =
    let a = b % 2 ^ 31 in
    let e = a / 2 ^ 23 - 94 in
    subst (λ (x : ℕ). HasValue (of_bits binary32 b) (leb (2 ^ 31) b) x (2 ^ 149)) (ap (λ (x : ℕ). digits a * 2 ^ x) (line (a / 2 ^ 23) (omega arith)) ∙ ap (λ (x : ℕ). digits a * x) (pow-add 2 e 93) ∙ sym (mul_assoc (digits a) (2 ^ e) (2 ^ 93)))
    (normal-value b (omega arith) h)
  where
    line : (f : ℕ) → 94 ≤ f → f - 1 ≡ f - 94 + 93
    line f h = omega arith

v-tiny : (b : ℕ) → b % 2 ^ 31 < 0x3300_0000 → (v : ℕ) × HasValue (of_bits binary32 b) (leb (2 ^ 31) b) v (2 ^ 149) × (v ≤ 2 ^ 124)
v-tiny b h =
    split (b % 2 ^ 31) (2 ^ 23)
    (λ l. (b % 2 ^ 23 * 1, subnormal b l, le_trans (small b) (lit≤ tt)))
    (λ l.
    let a = b % 2 ^ 31 in
    (digits a * 2 ^ (a / 2 ^ 23 - 1), normal-value b l (omega arith), le_trans (mul-le-mul (up_to a) (pow_mono {i = a / 2 ^ 23 - 1} {j = 100} (omega arith))) (lit≤ tt)))
  where
    small : (b : ℕ) → b % 2 ^ 23 * 1 ≤ 2 ^ 23
    small b = omega arith

    up_to : (a : ℕ) → digits a ≤ 2 ^ 24
    up_to a = omega arith

-- n / d in units of 2 ^ -56
cross : (n d X : ℕ) → n * 2 ^ 149 ≡ X * 2 ^ 93 * d → n * 2 ^ 56 ≡ X * d
cross n d X h = eq_of_mul-eq-mul_right (2 ^ 93) (pow_pos 93) (n * 2 ^ 56) (X * d) (mul_assoc n (2 ^ 56) (2 ^ 93) ∙ h ∙ mul_right_comm X (2 ^ 93) d)

sign-plus : (b : ℕ) → b / 2 ^ 31 < 1 → leb (2 ^ 31) b ≡ false
sign-plus b h = lt-leb (2 ^ 31) b (omega arith)

sign-minus : (b : ℕ) → 1 ≤ b / 2 ^ 31 → leb (2 ^ 31) b ≡ true
sign-minus b h = le-leb (2 ^ 31) b (omega arith)

-- ---- the value of a result: the pattern is e * 2 ^ 23 + m, and m is 2 ^ 24 only below the last exponent
result : (e m : ℕ) → 2 ^ 23 ≤ m → m ≤ 2 ^ 24 → e * 2 ^ 23 + m < 255 * 2 ^ 23 → HasValue (of_bits binary32 (e * 2 ^ 23 + m)) false (m * 2 ^ e) (2 ^ 149)
result e m l u h =
    subst (λ (x : Bool). HasValue (of_bits binary32 (e * 2 ^ 23 + m)) x (m * 2 ^ e) (2 ^ 149)) (lt-leb (2 ^ 31) (e * 2 ^ 23 + m) (omega arith))
    (split e 253 (λ k. value (e * 2 ^ 23 + m) e m (omega arith) l u k) (λ k. value-normal (e * 2 ^ 23 + m) e m (omega arith) l (omega arith) (omega arith)))

low-result : (c : ℕ) → c ≤ 2 ^ 23 → HasValue (of_bits binary32 c) false (c * 1) (2 ^ 149)
low-result c h =
    split c (2 ^ 23)
    (λ l.
    subst₂ (λ (x : Bool) (y : ℕ). HasValue (of_bits binary32 c) x (y * 1) (2 ^ 149)) (lt-leb (2 ^ 31) c (omega arith)) (omega arith)
    (subnormal c (omega arith)))
    (λ l. subst (λ (y : ℕ). HasValue (of_bits binary32 y) false (y * 1) (2 ^ 149)) (omega arith) (result 0 (2 ^ 23) (le_refl (2 ^ 23)) (lit≤ tt) (lit< tt)))

-- ---- what is rounded has 24 bits
module _ (R : ℕ) (r : R ≤ ln2) where
  from-23 : 2 ^ 23 ≤ rounded_to24 (power_of R)
  from-23 = rounded-ge (power_of R) (power-ge R r)

  to-24 : rounded_to24 (power_of R) ≤ 2 ^ 24
  to-24 = go (power_of R) (power_le R r)
    where
      go : (h : ℕ) → h ≤ 2 ^ 63 → rounded_to24 h ≤ 2 ^ 24
      go h k = omega arith

-- ---- below 2 ^ 128 the pattern is that of a finite float
below_top : (X : ℕ) → X ≤ 0xb1_7217 * 2 ^ 39 → (126 + X / ln2) * 2 ^ 23 + rounded_to24 (power_of (X % ln2)) < 255 * 2 ^ 23
below_top X h =
    split (X / ln2) 127
    (λ k. less (X / ln2) (rounded_to24 (power_of (X % ln2))) k (to-24 (X % ln2) (omega arith)))
    (λ k. at-127 (X / ln2) (power_of (X % ln2)) (omega arith) (power-under (X % ln2) (omega arith) last (2 ^ 63 - 2 ^ 39) (omega arith) last-enc.high))
  where
    less : (e m : ℕ) → e < 127 → m ≤ 2 ^ 24 → (126 + e) * 2 ^ 23 + m < 255 * 2 ^ 23
    less e m k u = omega arith

    at-127 : (e h : ℕ) → e ≤ 127 → h ≤ 2 ^ 63 - 2 ^ 39 → (126 + e) * 2 ^ 23 + rounded_to24 h < 255 * 2 ^ 23
    at-127 e h k u = omega arith

-- ---- x from 2 ^ -25 to the top
module _ (b : ℕ) (s : b / 2 ^ 31 < 1) (l : 0x3300_0000 ≤ b % 2 ^ 31) where
  plus-value : b % 2 ^ 31 < 0x7f80_0000 → HasValue (of_bits binary32 b) false (scaled_of (b % 2 ^ 31) 94 * 2 ^ 93) (2 ^ 149)
  plus-value h = subst (λ (x : Bool). HasValue (of_bits binary32 b) x (scaled_of (b % 2 ^ 31) 94 * 2 ^ 93) (2 ^ 149)) (sign-plus b s) (x-value b l h)

  grown-near : b % 2 ^ 31 < 0x42b1_7218 → NearExp (of_bits binary32 b) (of_bits binary32 (grown (scaled_of (b % 2 ^ 31) 94)))
  unfolding grown
  grown-near h =
      let X = scaled_of (b % 2 ^ 31) 94 in
      let e = 126 + X / ln2 in
      let R = X % ln2 in
      let v = rounded_to24 (power_of R) in
      let top : X ≤ 0xb1_7217 * 2 ^ 39 = below-plus (b % 2 ^ 31) h in
      let r : R ≤ ln2 = small X in
      let near : Sums X (2 ^ 56) (v * 2 ^ e) = subst (λ (x : ℕ). Sums x (2 ^ 56) (v * 2 ^ e)) (whole X) (near_up (X / ln2) R (few X top) r) in
      near-plus (v * 2 ^ e) (X * 2 ^ 93) (2 ^ 149) (of_bits binary32 b) (of_bits binary32 (e * 2 ^ 23 + v))
      (plus-value (lt_of_lt_of_le h (lit≤ tt)))
      (result e v (from-23 R r) (to-24 R r) (below_top X top))
      (λ n d D q. same-sums X (2 ^ 56) n d (pow_pos 56) D (cross n d X q) (v * 2 ^ e) near)
    where
      small : (X : ℕ) → X % ln2 ≤ ln2
      small X = omega arith

      few : (X : ℕ) → X ≤ 0xb1_7217 * 2 ^ 39 → X / ln2 ≤ 151
      few X h = omega arith

      whole : (X : ℕ) → X / ln2 * ln2 + X % ln2 ≡ X
      whole X = omega arith

-- ---- x from -2 ^ -25 down to the bottom: -x is (e + 1) * ln 2 - R
module _ (X e R : ℕ) (few : e ≤ 150) (r : R ≤ ln2) (q : X + R ≡ (e + 1) * ln2) (x : Float) (hx : HasValue x true (X * 2 ^ 93) (2 ^ 149)) where
  abbrev h : ℕ
  h = power_of R

  usual : e ≤ 125 → NearExp x (of_bits binary32 ((125 - e) * 2 ^ 23 + rounded_to24 h))
  usual k =
      let f = 125 - e in
      let v = rounded_to24 h in
      let near : Recs X (2 ^ 56) (v * 2 ^ f) = subst (λ (y : ℕ). Recs X (2 ^ 56) (v * 2 ^ y)) (line e) (near_down (e + 1) R X (omega arith) r q (omega arith)) in
      near-minus (v * 2 ^ f) (X * 2 ^ 93) (2 ^ 149) x (of_bits binary32 (f * 2 ^ 23 + v)) hx
      (result f v (from-23 R r) (to-24 R r) (fine e v (to-24 R r)))
      (λ n d D p. same-recs X (2 ^ 56) n d (pow_pos 56) D (cross n d X p) (v * 2 ^ f) near)
    where
      line : (e : ℕ) → 126 - (e + 1) ≡ 125 - e
      line e = omega arith

      fine : (e m : ℕ) → m ≤ 2 ^ 24 → (125 - e) * 2 ^ 23 + m < 255 * 2 ^ 23
      fine e m k = omega arith

  under : 125 < e → NearExp x (of_bits binary32 ((h / 2 ^ (e - 87) + 1) / 2))
  under k =
      let v = (h / 2 ^ (e - 87) + 1) / 2 in
      let near : Recs X (2 ^ 56) (v * 1) = subst (λ (y : ℕ). Recs X (2 ^ 56) ((h / 2 ^ y + 1) / 2 * 1)) (line e) (near_sub (e + 1) R X (omega arith) r q (omega arith)) in
      near-minus (v * 1) (X * 2 ^ 93) (2 ^ 149) x (of_bits binary32 v) hx (low-result v (half (h / 2 ^ (e - 87)) down))
      (λ n d D p. same-recs X (2 ^ 56) n d (pow_pos 56) D (cross n d X p) (v * 1) near)
    where
      line : (e : ℕ) → e + 1 - 88 ≡ e - 87
      line e = omega arith

      down : h / 2 ^ (e - 87) ≤ 2 ^ 24
      down = div-le_of_le-mul (2 ^ (e - 87)) (le_trans (power_le R r) (le_trans {m = 2 ^ 39 * 2 ^ 24} (lit≤ tt) (mul-le-mul_right (2 ^ 24) (pow_mono {i = 39} {j = e - 87} (omega arith)))))

      half : (q : ℕ) → q ≤ 2 ^ 24 → (q + 1) / 2 ≤ 2 ^ 23
      half q k = omega arith

  down-near : NearExp x (of_bits binary32 (lowered e h))
  down-near =
      split 125 e
      (λ k. subst (λ (y : ℕ). NearExp x (of_bits binary32 y)) (sym (lowered-subnormal e h k)) (under k))
      (λ k. subst (λ (y : ℕ). NearExp x (of_bits binary32 y)) (sym (lowered-normal e h k)) (usual k))

module _ (b : ℕ) (s : 1 ≤ b / 2 ^ 31) (l : 0x3300_0000 ≤ b % 2 ^ 31) where
  minus-value : b % 2 ^ 31 < 0x7f80_0000 → HasValue (of_bits binary32 b) true (scaled_of (b % 2 ^ 31) 94 * 2 ^ 93) (2 ^ 149)
  minus-value h = subst (λ (x : Bool). HasValue (of_bits binary32 b) x (scaled_of (b % 2 ^ 31) 94 * 2 ^ 93) (2 ^ 149)) (sign-minus b s) (x-value b l h)

  shrunk-near : b % 2 ^ 31 < 0x42d0_0000 → NearExp (of_bits binary32 b) (of_bits binary32 (shrunk (scaled_of (b % 2 ^ 31) 94)))
  unfolding shrunk
  shrunk-near h =
      let X = scaled_of (b % 2 ^ 31) 94 in
      down-near X (X / ln2) (ln2 - X % ln2) (few X (below-minus (b % 2 ^ 31) h)) (small X) (whole X) (of_bits binary32 b) (minus-value (lt_of_lt_of_le h (lit≤ tt)))
    where
      small : (X : ℕ) → ln2 - X % ln2 ≤ ln2
      small X = omega arith

      few : (X : ℕ) → X ≤ 104 * 2 ^ 56 → X / ln2 ≤ 150
      few X k = omega arith

      whole : (X : ℕ) → X + (ln2 - X % ln2) ≡ (X / ln2 + 1) * ln2
      whole X = omega arith

-- ---- past the ends
units : (n d X M : ℕ) → n * 2 ^ 56 ≡ X * d → M * 2 ^ 39 ≤ X → M * d ≤ n * 2 ^ 17
units n d X M e h = le_of_mul-le-mul_right {k = 2 ^ 39} (omega (arith, e, mul-le-mul_right d h)) (pow_pos 39)

past-plus : (b : ℕ) → b / 2 ^ 31 < 1 → 0x42b1_7218 ≤ b % 2 ^ 31 → b % 2 ^ 31 < 0x7f80_0000 → NearExp (of_bits binary32 b) (inf false)
past-plus b s l h =
    let X = scaled_of (b % 2 ^ 31) 94 in
    near-inf (X * 2 ^ 93) (2 ^ 149) (of_bits binary32 b) (plus-value b s (omega arith) h) (λ n d q. past_top n d (units n d X 0xb1_7218 (cross n d X q) (scaled-ge (b % 2 ^ 31) 0xb1_7218 (lit≤ tt) (omega arith) (lit< tt))))

past-minus : (b : ℕ) → 1 ≤ b / 2 ^ 31 → 0x42d0_0000 ≤ b % 2 ^ 31 → b % 2 ^ 31 < 0x7f80_0000 → NearExp (of_bits binary32 b) (of_bits binary32 0)
past-minus b s l h =
    let X = scaled_of (b % 2 ^ 31) 94 in
    near-minus (0 * 1) (X * 2 ^ 93) (2 ^ 149) (of_bits binary32 b) (of_bits binary32 0) (minus-value b s (omega arith) h) (low-result 0 (lit≤ tt))
    (λ n d D q. past-bottom n d D (cut n d (units n d X 0xd0_0000 (cross n d X q) (scaled-ge (b % 2 ^ 31) 0xd0_0000 (lit≤ tt) (omega arith) (lit< tt)))))
  where
    cut : (n d : ℕ) → 0xd0_0000 * d ≤ n * 2 ^ 17 → 104 * d ≤ n * 1
    cut n d k = omega arith

-- ---- about 0
one_value : HasValue (of_bits binary32 0x3f80_0000) false (2 ^ 23 * 2 ^ 126) (2 ^ 149)
one_value = result 126 (2 ^ 23) (le_refl (2 ^ 23)) (lit≤ tt) (lit< tt)

tiny-near : (b : ℕ) → b % 2 ^ 31 < 0x3300_0000 → NearExp (of_bits binary32 b) (of_bits binary32 0x3f80_0000)
tiny-near b h =
    let w = v-tiny b h in
    let v = w.0 in
    split (b / 2 ^ 31) 1
    (λ s. near-plus (2 ^ 23 * 2 ^ 126) v (2 ^ 149) (of_bits binary32 b) (of_bits binary32 0x3f80_0000) (subst (λ (x : Bool). HasValue (of_bits binary32 b) x v (2 ^ 149)) (sign-plus b s) w.1) one_value (λ n d D q. tiny-up n d D (small n d v q w.2)))
    (λ s. near-minus (2 ^ 23 * 2 ^ 126) v (2 ^ 149) (of_bits binary32 b) (of_bits binary32 0x3f80_0000) (subst (λ (x : Bool). HasValue (of_bits binary32 b) x v (2 ^ 149)) (sign-minus b s) w.1) one_value (λ n d D q. tiny-down n d D (small n d v q w.2)))
  where
    small : (n d v : ℕ) → n * 2 ^ 149 ≡ v * d → v ≤ 2 ^ 124 → n * 2 ^ 25 ≤ d
    small n d v e k = le_of_mul-le-mul_right {k = 2 ^ 124} (le_trans (le_of_eq (mul_assoc n (2 ^ 25) (2 ^ 124) ∙ e)) (le_trans (mul-le-mul_right d k) (le_of_eq (mul_comm (2 ^ 124) d)))) (pow_pos 124)

-- ---- every pattern
near-bits : (b : ℕ) → b < 2 ^ 32 → NearExp (of_bits binary32 b) (of_bits binary32 (exp_bits b))
near-bits b B =
    split 0x7f80_0000 (b % 2 ^ 31)
    (λ h. subst₂ (λ (x y : Float). NearExp x y) (sym (nan_pattern b h)) (sym (ap (of_bits binary32) (at-nan b h) ∙ the-nan)) refl)
    (λ h. split (b % 2 ^ 31) 0x3300_0000
    (λ k. subst (λ (c : ℕ). NearExp (of_bits binary32 b) (of_bits binary32 c)) (sym (at-tiny b k)) (tiny-near b k))
    (λ k. split (b / 2 ^ 31) 1 (λ s. plus h k s) (λ s. minus h k s)))
  where
    plus : b % 2 ^ 31 ≤ 0x7f80_0000 → 0x3300_0000 ≤ b % 2 ^ 31 → b / 2 ^ 31 < 1 → NearExp (of_bits binary32 b) (of_bits binary32 (exp_bits b))
    plus h k s =
        split (b % 2 ^ 31) 0x42b1_7218
        (λ l. subst (λ (c : ℕ). NearExp (of_bits binary32 b) (of_bits binary32 c)) (sym (at-plus b s k l)) (grown-near b s k l))
        (λ l.
        subst (λ (y : Float). NearExp (of_bits binary32 b) y) (sym (ap (of_bits binary32) (at_top b h s l) ∙ an-inf))
        (split (b % 2 ^ 31) 0x7f80_0000 (λ t. past-plus b s l t) (λ t. subst (λ (y : Float). NearExp y (inf false)) (sym (ap (of_bits binary32) (whole t s h) ∙ an-inf)) refl)))
      where
        whole : 0x7f80_0000 ≤ b % 2 ^ 31 → b / 2 ^ 31 < 1 → b % 2 ^ 31 ≤ 0x7f80_0000 → b ≡ 0x7f80_0000
        whole t s h = omega arith

    minus : b % 2 ^ 31 ≤ 0x7f80_0000 → 0x3300_0000 ≤ b % 2 ^ 31 → 1 ≤ b / 2 ^ 31 → NearExp (of_bits binary32 b) (of_bits binary32 (exp_bits b))
    minus h k s =
        split (b % 2 ^ 31) 0x42d0_0000
        (λ l. subst (λ (c : ℕ). NearExp (of_bits binary32 b) (of_bits binary32 c)) (sym (at-minus b s k l)) (shrunk-near b s k l))
        (λ l.
        subst (λ (c : ℕ). NearExp (of_bits binary32 b) (of_bits binary32 c)) (sym (at-bottom b h s l))
        (split (b % 2 ^ 31) 0x7f80_0000 (λ t. past-minus b s l t) (λ t. subst (λ (y : Float). NearExp y (of_bits binary32 0)) (sym (ap (of_bits binary32) (whole t s h) ∙ minus-inf)) plus-zero)))
      where
        whole : 0x7f80_0000 ≤ b % 2 ^ 31 → 1 ≤ b / 2 ^ 31 → b % 2 ^ 31 ≤ 0x7f80_0000 → b ≡ 0xff80_0000
        whole t s h = omega (arith, B)

exp_of-is : (x : Float) → exp_of x ≡ of_bits binary32 (exp_bits (to_bits binary32 x))
unfolding exp_of
exp_of-is x = refl

pub exp-near : ExpNear
exp-near x F = subst₂ (λ (y z : Float). NearExp y z) (of_bits-to_bits binary32 x F) (sym (exp_of-is x)) (near-bits (to_bits binary32 x) (to_bits-lt binary32 x F))
