-- ln (m / 2 ^ 23 * 2 ^ E) and -ln (m / 2 ^ 23 * 2 ^ -E) as S units of 2 ^ -56: what S is off is at most 7/16 of the place to which it is rounded, so the rounded S is at most 15/16 of it from the logarithm. Where the 24 bits are 2 ^ 23 the rounding was downwards, so below there is only what S is off, less than 15/16 of half of the place.
use mathlib.Core.Path.{◌≡◌, refl, sym, ap, ◌∙◌, subst}
use Prim.Native.Nat.{ℕ, ◌+◌, ◌-◌, ◌*◌, ◌^◌, ◌≤◌, ◌<◌}
use native.Mathlib.Nat.{le_trans, le_of_eq, lt_of_lt_of_le, mul_comm, mul-sub, mul-le-mul_left, mul-le-mul_right, le_of_mul-le-mul_right, sub-add_cancel}
use native.Mathlib.Omega.{arith}
use lib.Dec.{lit≤, lit<}
use lib.Pow.{pow_pos, pow-add}
use lib.Count.{count_leading_zeros}
use lib.ListN.{get_or}
use Rattle.cases.proofs.Cases.{split}
use Rattle.fixed.specs.Fixed.{mant}
use Rattle.fixed.proofs.Round.{grain, top_of, rounded, place, place_is}
use Rattle.exponential.specs.Tables.{ln2}
use Rattle.logarithm.specs.Tables.{eighths}
use Rattle.logarithm.specs.Ln.{twice_of, index, centre, rest_of}
use Rattle.logarithm.proofs.LnRange as range
use Rattle.series.specs.Series.{ExpLe, ExpGe}
use Rattle.exponential_bounds.proofs.Units.{unit, unit_below, Units, units_of}
use Rattle.exponential_bounds.proofs.Exponents.{le-times, ge-times, le-over, ge-over, lower-le, upper-ge}
use Rattle.exponential_bounds.proofs.Twice.{give}
use Rattle.exponential_bounds.proofs.LnRest.{Near, rest_up, rest-down, eighth-first, power_le, power-ge}

-- ---- S rounded to 24 bits: 64 grains are one unit of the last place, so 28 grains are 7/16 of it
record Placed (S v : ℕ) : Type 0 where
  pub enough : 28 * grain S ≤ S
  pub low : (16 * v - 15 * unit_below v) * 2 ^ 56 ≤ (S - 28 * grain S) * (16 * 2 ^ 149)
  pub high : (S + 28 * grain S) * (16 * 2 ^ 149) ≤ (16 * v + 15 * unit v) * 2 ^ 56

module _ (S μ o u Q T B l t : ℕ) (e : u ≡ Q * o) (f : Q * T ≡ 64 * B) (a : 64 * (μ * o) ≤ S + 32 * o) (b : S ≤ 64 * (μ * o) + 32 * o) (c : 64 * (2 ^ 23 * o) ≤ S) (U : Units μ u l t) where
  enough : 28 * o ≤ S
  enough = omega (arith, c)

  u_t : u * T ≡ 64 * (o * B)
  u_t = omega (arith, ap (λ (x : ℕ). x * T) e, ap (λ (x : ℕ). o * x) f)

  low-go : (s : ℕ) → s + 28 * o ≡ S → 16 * (μ * u) * T ≤ s * (16 * B) + 15 * l * T
  low-go s q =
      split (2 ^ 23) μ
      (λ k. omega (arith, u_t, ap (λ (x : ℕ). μ * x) u_t, ap (λ (x : ℕ). x * B) q, mul-le-mul_right B a, mul-le-mul_right T (U.whole k)))
      (λ k. omega (arith, u_t, ap (λ (x : ℕ). μ * x) u_t, ap (λ (x : ℕ). x * B) q, mul-le-mul_right (o * B) k, mul-le-mul_right B c, mul-le-mul_right T U.half))

  high-go : (S + 28 * o) * (16 * B) ≤ (16 * (μ * u) + 15 * t) * T
  high-go = omega (arith, u_t, ap (λ (x : ℕ). μ * x) u_t, mul-le-mul_right B b, mul-le-mul_right T U.own)

-- without its leading zeros S is at least 2 ^ 63, so it is at least 2 ^ 29 grains
grains : (S : ℕ) → 2 ^ 30 ≤ S → S < 2 ^ 64 → 64 * (2 ^ 23 * grain S) ≤ S
grains S big fits =
    let l = count_leading_zeros 64 S in
    let few : l ≤ 34 = le_trans (rounded S big fits).few (lit≤ tt) in
    le_of_mul-le-mul_right {k = 2 ^ l} (go (grain S) (2 ^ l) (sym (pow-add 2 (34 - l) l) ∙ ap (λ (x : ℕ). 2 ^ x) (sub-add_cancel few)) (top_of S (lt_of_lt_of_le (lit< tt) big) fits).full) (pow_pos l)
  where
    go : (o c : ℕ) → o * c ≡ 2 ^ 34 → 2 ^ 63 ≤ S * c → 64 * (2 ^ 23 * o) * c ≤ S * c
    go o c e h = omega (arith, e, h)

placed : (S : ℕ) → 2 ^ 30 ≤ S → S < 2 ^ 64 → Placed S (mant S * place S)
placed S big fits =
    let R = rounded S big fits in
    let v = mant S * place S in
    let e = place_is S R.few in
    let f : 2 ^ 99 * 2 ^ 56 ≡ 64 * 2 ^ 149 = refl in
    let c = grains S big fits in
    let U = units_of (mant S) (133 - count_leading_zeros 64 S) R.least in
    let N = enough S (mant S) (grain S) (place S) (2 ^ 99) (2 ^ 56) (2 ^ 149) (unit_below v) (unit v) e f R.over R.under c U in
    record {
      enough = N;
      low = taken (16 * v) (15 * unit_below v) (2 ^ 56) ((S - 28 * grain S) * (16 * 2 ^ 149)) (low-go S (mant S) (grain S) (place S) (2 ^ 99) (2 ^ 56) (2 ^ 149) (unit_below v) (unit v) e f R.over R.under c U (S - 28 * grain S) (sub-add_cancel N));
      high = high-go S (mant S) (grain S) (place S) (2 ^ 99) (2 ^ 56) (2 ^ 149) (unit_below v) (unit v) e f R.over R.under c U;
    }
  where
    taken : (x y T z : ℕ) → x * T ≤ z + y * T → (x - y) * T ≤ z
    taken x y T z h = le_trans (le_of_eq (mul_comm (x - y) T ∙ mul-sub T x y)) (omega (arith, h))

-- what is to be shown of S: rounded to 24 bits, its exponent less 15/16 of the unit below it and more 15/16 of its own encloses a / b
pub record Good (S a b : ℕ) : Type 0 where
  pub from : 2 ^ 30 ≤ S
  pub fits : S < 2 ^ 64
  pub low : ExpLe (16 * (mant S * place S) - 15 * unit_below (mant S * place S)) (16 * 2 ^ 149) a b
  pub high : ExpGe (16 * (mant S * place S) + 15 * unit (mant S * place S)) (16 * 2 ^ 149) a b

good : (S a b x y w : ℕ) → 2 ^ 30 ≤ S → S < 2 ^ 64 → w ≤ 28 * grain S → ExpLe x (2 ^ 56) a b → ExpGe y (2 ^ 56) a b → S ≤ x + w → y ≤ S + w → Good S a b
good S a b x y w g f W X Y s t =
    let P = placed S g f in
    let v = mant S * place S in
    record {
      from = g;
      fits = f;
      low = lower-le (16 * v - 15 * unit_below v) (16 * 2 ^ 149) x (2 ^ 56) a b (lit< tt) (pow_pos 56) (le_trans P.low (mul-le-mul_right (16 * 2 ^ 149) (less (28 * grain S) W))) X;
      high = upper-ge (16 * v + 15 * unit v) (16 * 2 ^ 149) y (2 ^ 56) a b (lit< tt) (pow_pos 56) (le_trans (mul-le-mul_right (16 * 2 ^ 149) (more (28 * grain S) W)) P.high) Y;
    }
  where
    less : (o : ℕ) → w ≤ o → S - o ≤ x
    less o p = omega arith

    more : (o : ℕ) → w ≤ o → y ≤ S + o
    more o p = omega arith

-- S is at most 2 ^ 30 + 32 grains
within : (S w : ℕ) → 2 ^ 30 ≤ S → S < 2 ^ 64 → w * (2 ^ 30 + 32) ≤ 28 * S → w ≤ 28 * grain S
within S w g f h =
    let R = rounded S g f in
    le_of_mul-le-mul_right {k = 2 ^ 30 + 32} (go (grain S) (mant S) R.most R.under) (lit< tt)
  where
    go : (o μ : ℕ) → μ ≤ 2 ^ 24 → S ≤ 64 * (μ * o) + 32 * o → w * (2 ^ 30 + 32) ≤ 28 * o * (2 ^ 30 + 32)
    go o μ p q = omega (arith, mul-le-mul_right o p)

-- ---- how much S is off: E for the powers of two, 1 for the table, and the give of a
large : (E a S : ℕ) → E ≤ 149 → a ≤ 2 ^ 52 + 2 ^ 42 → 3900000000000000 ≤ S → (E + 1 + give a) * (2 ^ 30 + 32) ≤ 28 * S
large E a S p q r = omega arith

-- near 1 only a is left
alone : (E a S : ℕ) → E ≤ 1 → 2 ^ 30 ≤ a → a ≤ S → (E + 1 + give a) * (2 ^ 30 + 32) ≤ 28 * S
alone E a S p q r = omega arith

-- between 15/8 and 31/16
seventh : (E a S : ℕ) → E ≤ 1 → a ≤ 2405000000000000 → 2245000000000000 ≤ S → (E + 1 + give a) * (2 ^ 30 + 32) ≤ 28 * S
seventh E a S p q r = omega arith

module _ (m E : ℕ) (from : 2 ^ 23 ≤ m) (to : m < 2 ^ 24) (few : E ≤ 149) where
  abbrev i : ℕ
  i = index m

  abbrev c : ℕ
  c = centre m

  abbrev y : ℕ
  y = get_or eighths i 0

  I : i < 9
  I = range.index-le m from to

  rest_le : rest_of m + 2 ^ 30 ≤ ln2
  rest_le = range.rest_le m from to

  -- ---- x from 1 up, but 1
  module _ (some : 2 ^ 23 < m + E) where
    abbrev pub S : ℕ
    S = E * ln2 + rest_of m

    S-ge : 2 ^ 30 ≤ S
    S-ge = range.sum-big m from to E some

    S-lt : S < 2 ^ 64
    S-lt = omega (arith, rest_le)

    slack-up : (h : c ≤ m) → (E + 1 + give (twice_of (m - c) (m + c))) * (2 ^ 30 + 32) ≤ 28 * S
    slack-up h =
        let a = twice_of (m - c) (m + c) in
        let e = range.rest_up m from to h in
        split E 1
        (λ z. split i 1
        (λ j. alone E a S (omega arith) (range.least (m - c) (m + c) (omega arith) (range.up-near m from to) (range.sum-ge m from to) (range.sum_lt m from to)) (last E a y (rest_of m) e))
        (λ j. large E a S few (range.up_le m from to) (table E a y (rest_of m) i j e (eighth-first i I))))
        (λ z. large E a S few (range.up_le m from to) (power E (rest_of m) z))
      where
        last : (E a y r : ℕ) → r ≡ y + a → a ≤ E * ln2 + r
        last E a y r e = omega arith

        table : (E a y r i : ℕ) → 1 ≤ i → r ≡ y + a → 8487162167882469 * (1 - (1 - i)) ≤ y → 3900000000000000 ≤ E * ln2 + r
        table E a y r i j e f = omega arith

        power : (E r : ℕ) → 1 ≤ E → 3900000000000000 ≤ E * ln2 + r
        power E r z = omega arith

    slack-down : (h : m < c) → (E + 1 + give (twice_of (c - m) (m + c))) * (2 ^ 30 + 32) ≤ 28 * S
    slack-down h =
        let a = twice_of (c - m) (m + c) in
        large E a S few (range.down_le m from to) (table E a y (rest_of m) i (range.down-index m from to h) (range.rest-down m from to h) (range.down_le m from to) (eighth-first i I))
      where
        table : (E a y r i : ℕ) → 1 ≤ i → r ≡ y - a → a ≤ 2 ^ 52 + 2 ^ 42 → 8487162167882469 * (1 - (1 - i)) ≤ y → 3900000000000000 ≤ E * ln2 + r
        table E a y r i j e k f = omega arith

    by-up : (δ : ℕ) → Near (rest_of m) δ m (2 ^ 23) → (E + 1 + δ) * (2 ^ 30 + 32) ≤ 28 * S → Good S (2 ^ E * m) (1 * 2 ^ 23)
    by-up δ R k =
        good S (2 ^ E * m) (1 * 2 ^ 23) (E * ln2 + R.low) (E * (ln2 + 1) + R.high) (E + 1 + δ) S-ge S-lt (within S (E + 1 + δ) S-ge S-lt k)
        (le-times (E * ln2) R.low (2 ^ 56) (pow_pos 56) (2 ^ E) 1 m (2 ^ 23) (power_le E) R.low-is)
        (ge-times (E * (ln2 + 1)) R.high (2 ^ 56) (pow_pos 56) (2 ^ E) 1 m (2 ^ 23) (power-ge E) R.high_is)
        (omega (arith, R.low_near)) (omega (arith, R.high-near))

    pub good-up : Good S (2 ^ E * m) (1 * 2 ^ 23)
    good-up =
        split m c
        (λ h. by-up (give (twice_of (c - m) (m + c))) (rest-down m from to h) (slack-down h))
        (λ h. by-up (give (twice_of (m - c) (m + c))) (rest_up m from to h) (slack-up h))

  -- ---- x below 1
  module _ (one : 1 ≤ E) where
    abbrev pub Z : ℕ
    Z = E * ln2 - rest_of m

    Z-ge : 2 ^ 30 ≤ Z
    Z-ge = omega (arith, rest_le)

    Z-lt : Z < 2 ^ 64
    Z-lt = omega arith

    twofold : 2 ≤ E → 3900000000000000 ≤ Z
    twofold h = omega (arith, rest_le)

    -- below 31/16 the correction is smaller, since d is larger
    under-seven : (h : c ≤ m) → 7 ≤ i → twice_of (m - c) (m + c) ≤ 2405000000000000
    under-seven h j =
        split 0 (m - c)
        (λ p. go (twice_of (m - c) (m + c)) (m + c) (m - c) (omega arith) (range.up-near m from to) (range.bound (m - c) (m + c) p (range.up-near m from to) (range.sum-ge m from to)))
        (λ p. subst (λ (x : ℕ). twice_of x (m + c) ≤ 2405000000000000) (omega arith) (le_trans (le_of_eq (range.twice-zero (m + c) (omega arith))) (lit≤ tt)))
      where
        go : (a d n : ℕ) → 31457280 ≤ d → n ≤ 2 ^ 19 → a * d * 1024 ≤ n * 2 ^ 57 * 1025 → a ≤ 2405000000000000
        go a d n p q r = le_of_mul-le-mul_right {k = 31457280} (omega (arith, mul-le-mul_left a p)) (lit< tt)

    slack-up' : (h : c ≤ m) → (E + 1 + give (twice_of (m - c) (m + c))) * (2 ^ 30 + 32) ≤ 28 * Z
    slack-up' h =
        let a = twice_of (m - c) (m + c) in
        let e = range.rest_up m from to h in
        split E 2
        (λ z. split i 7
        (λ j. large E a Z few (range.up_le m from to) (six E a y (rest_of m) i one j e (range.up_le m from to) (range.eighth-le i I)))
        (λ j. seventh E a Z (omega arith) (under-seven h j) (seven E a y (rest_of m) i one (omega arith) e (under-seven h j) (range.eighth-le i I))))
        (λ z. large E a Z few (range.up_le m from to) (twofold z))
      where
        six : (E a y r i : ℕ) → 1 ≤ E → i < 7 → r ≡ y + a → a ≤ 2 ^ 52 + 2 ^ 42 → y + (8 - i) * 4650490555939334 ≤ ln2 → 3900000000000000 ≤ E * ln2 - r
        six E a y r i o j e k f = omega arith

        seven : (E a y r i : ℕ) → 1 ≤ E → i ≤ 7 → r ≡ y + a → a ≤ 2405000000000000 → y + (8 - i) * 4650490555939334 ≤ ln2 → 2245000000000000 ≤ E * ln2 - r
        seven E a y r i o j e k f = omega arith

    slack-down' : (h : m < c) → (E + 1 + give (twice_of (c - m) (m + c))) * (2 ^ 30 + 32) ≤ 28 * Z
    slack-down' h =
        let a = twice_of (c - m) (m + c) in
        let e = range.rest-down m from to h in
        split E 2
        (λ z. split i 8
        (λ j. large E a Z few (range.down_le m from to) (seven E a y (rest_of m) i one j e (range.taken m from to h) (range.eighth-le i I)))
        (λ j. alone E a Z (omega arith) (range.least (c - m) (m + c) (omega arith) (range.down-near m from to) (range.sum-ge m from to) (range.sum_lt m from to)) (last E a y (rest_of m) one e (range.taken m from to h) (range.eighth-le i I))))
        (λ z. large E a Z few (range.down_le m from to) (twofold z))
      where
        seven : (E a y r i : ℕ) → 1 ≤ E → i < 8 → r ≡ y - a → a ≤ y → y + (8 - i) * 4650490555939334 ≤ ln2 → 3900000000000000 ≤ E * ln2 - r
        seven E a y r i o j e k f = omega arith

        last : (E a y r : ℕ) → 1 ≤ E → r ≡ y - a → a ≤ y → y + (8 - index m) * 4650490555939334 ≤ ln2 → a ≤ E * ln2 - r
        last E a y r o e k f = omega arith

    by_down : (δ : ℕ) → Near (rest_of m) δ m (2 ^ 23) → (E + 1 + δ) * (2 ^ 30 + 32) ≤ 28 * Z → Good Z (2 ^ E * 2 ^ 23) (1 * m)
    by_down δ R k =
        let W : E + 1 + δ ≤ 28 * grain Z = within Z (E + 1 + δ) Z-ge Z-lt k in
        let far : E + 1 + δ ≤ Z = le_trans W (placed Z Z-ge Z-lt).enough in
        let h : R.high ≤ E * ln2 = omega (arith, R.high-near) in
        let l : R.low ≤ E * (ln2 + 1) = omega (arith, R.low-le, rest_le) in
        good Z (2 ^ E * 2 ^ 23) (1 * m) (E * ln2 - R.high) (E * (ln2 + 1) - R.low) (E + 1 + δ) Z-ge Z-lt W
        (le-over (E * ln2 - R.high) R.high (2 ^ 56) (pow_pos 56) (2 ^ E) 1 m (2 ^ 23) (subst (λ (x : ℕ). ExpLe x (2 ^ 56) (2 ^ E) 1) (sym (sub-add_cancel h)) (power_le E)) R.high_is)
        (ge-over (E * (ln2 + 1) - R.low) R.low (2 ^ 56) (pow_pos 56) (2 ^ E) 1 m (2 ^ 23) (subst (λ (x : ℕ). ExpGe x (2 ^ 56) (2 ^ E) 1) (sym (sub-add_cancel l)) (power-ge E)) R.low-is)
        (omega (arith, R.high-near)) (omega (arith, R.low_near))

    pub good-down : Good Z (2 ^ E * 2 ^ 23) (1 * m)
    good-down =
        split m c
        (λ h. by_down (give (twice_of (c - m) (m + c))) (rest-down m from to h) (slack-down' h))
        (λ h. by_down (give (twice_of (m - c) (m + c))) (rest_up m from to h) (slack-up' h))
