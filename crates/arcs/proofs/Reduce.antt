-- How x is brought to a table's angle and a small one, for x below 2 ^ -7, below 1 and from 1 on.
use mathlib.Core.Path.{◌≡◌, refl, sym, ap, ap₂, ◌∙◌, subst}
use mathlib.Core.Logic.{inl, inr}
use mathlib.Core.Bool.{Bool}
use Prim.Native.Nat.{ℕ, zero, suc, ◌+◌, ◌-◌, ◌*◌, ◌/◌, ◌^◌, ◌≤◌, ◌<◌}
use native.Mathlib.Nat.{le_trans, mul_comm, mul_assoc, mul-le-mul, mul-le-mul_left, mul-le-mul_right, le_of_mul-le-mul_right, div-mul-le_self, lt-div-mul-add, le_of_lt, le-add_left}
use native.Mathlib.Omega.{arith}
use lib.Pow.{pow_pos, pow_mono, pow-add}
use lib.Dec.{lit<, lit≤}
use lib.ListN.{get_or}
use borrow.Author.Tests.{le-ltb, lt-ltb}
use Rattle.fixed.specs.Fixed.{pick, digits}
use Rattle.fixed.proofs.Sizes.{dig-low, dig-high}
use Rattle.arc_tables.specs.Tables.{angles, half_pi}
use Rattle.arcs.specs.Atan.{angle_of, low_angle, mid_angle, high_angle, atan_mag}
use Rattle.cases.proofs.Cases.{split}
use Rattle.arc_tables.proofs.Angles.{Entry, entry, angle, steep-angle}
use Rattle.series.proofs.SmallAngle.{div-high}
use Rattle.arcs.proofs.Angle.{Reduced}

-- ---- below 2 ^ -7
zero-entry : Entry 1 128 0 0
unfolding angles
zero-entry = entry 1 128 0 0 (angle 0 (lit< tt))

pub low-reduced : (q : ℕ) → 2 ^ 43 ≤ q → q ≤ 2 ^ 49 → Reduced q (2 ^ 56) 0 q
low-reduced q l h =
    record {
      x₀ = 128;
      y₀ = 0;
      R = 128 * q;
      entry = zero-entry;
      e_r = omega arith;
      far = omega arith;
      q-low = omega arith;
      q-high = omega arith;
      most = omega arith;
      large = omega arith;
      way = inl refl;
    }

-- ---- a tangent n / c up to 1, and the margin d
module _ (n c d : ℕ) (top : n ≤ c) (pos : 0 < d) (fine : d * 2 ^ 8 ≤ c) (coarse : c ≤ d * 2 ^ 10) (least : c ≤ n * 2 ^ 12) where
  abbrev i : ℕ
  i = (2 ^ 7 * n - d) / c

  abbrev R : ℕ
  R = 2 ^ 7 * n - i * c

  abbrev P : ℕ
  P = 2 ^ 7 * c + i * n

  abbrev q : ℕ
  q = R * 2 ^ 56 / P

  c_pos : 0 < c
  c_pos = omega arith

  pub d-le : d ≤ 2 ^ 7 * n
  d-le = omega arith

  i-low : i * c ≤ 2 ^ 7 * n - d
  i-low = div-mul-le_self (2 ^ 7 * n - d) c

  i-high : 2 ^ 7 * n - d < i * c + c
  i-high = lt-div-mul-add c_pos

  pub i_lt : i < 128
  i_lt = split i 128 (λ l. l) (λ l. absurd (go i l i-low (mul-le-mul_right c l)))
    where
      go : (i : ℕ) → 128 ≤ i → i * c ≤ 2 ^ 7 * n - d → 128 * c ≤ i * c → ⊥
      go i l a b = let e = d-le in omega arith

  pub i-n : i * n ≤ 127 * c
  i-n = mul-le-mul (go i i_lt) top
    where
      go : (i : ℕ) → i < 128 → i ≤ 127
      go i h = omega arith

  pub R-is : R + i * c ≡ 2 ^ 7 * n
  R-is = go (i * c) i-low
    where
      go : (y : ℕ) → y ≤ 2 ^ 7 * n - d → 2 ^ 7 * n - y + y ≡ 2 ^ 7 * n
      go y h = omega arith

  pub R-least : d ≤ R
  R-least = go (i * c) R i-low R-is
    where
      go : (y R : ℕ) → y ≤ 2 ^ 7 * n - d → R + y ≡ 2 ^ 7 * n → d ≤ R
      go y R h e = let k = d-le in omega arith

  pub R-most : R ≤ d + c
  R-most = go (i * c) R i-high R-is
    where
      go : (y R : ℕ) → 2 ^ 7 * n - d < y + c → R + y ≡ 2 ^ 7 * n → R ≤ d + c
      go y R h e = omega arith

  q-P : q * P ≤ R * 2 ^ 56
  q-P = div-mul-le_self (R * 2 ^ 56) P

  P_pos : 0 < P
  P_pos = go (i * n) c_pos
    where
      go : (y : ℕ) → 0 < c → 0 < 2 ^ 7 * c + y
      go y h = omega arith

  P-q : R * 2 ^ 56 ≤ (q + 1) * P
  P-q = div-high (R * 2 ^ 56) P P_pos

  pub q-most : q ≤ 2 ^ 49 + 2 ^ 41
  q-most = le_of_mul-le-mul_right {k = c} (go q R (i * n) q-P R-most) c_pos
    where
      go : (q R y : ℕ) → q * (2 ^ 7 * c + y) ≤ R * 2 ^ 56 → R ≤ d + c → q * c ≤ (2 ^ 49 + 2 ^ 41) * c
      go q R y a b = omega (arith, a, b)

  q-least : 2 ^ 38 ≤ q
  q-least = go q R (i * n) P-q (mul-le-mul_left (q + 1) i-n) R-least (mul-le-mul_left (q + 1) coarse)
    where
      go : (q R y : ℕ) → R * 2 ^ 56 ≤ (q + 1) * (2 ^ 7 * c + y) → (q + 1) * y ≤ (q + 1) * (127 * c) → d ≤ R → (q + 1) * c ≤ (q + 1) * (d * 2 ^ 10) → 2 ^ 38 ≤ q
      go q R y a b r f = le_of_mul-le-mul_right {k = d} (final q (omega (arith, a, b, r, f))) pos
        where
          final : (q : ℕ) → d * 2 ^ 56 ≤ (q + 1) * d * (255 * 2 ^ 10) → 2 ^ 38 * d ≤ q * d
          final q h = omega (arith, h)

  pub E : Entry 1 128 i (get_or angles i 0)
  E = entry 1 128 i (get_or angles i 0) (angle i (omega (arith, i_lt)))

  q-large : 2 ^ 43 ≤ get_or angles i 0 + q
  q-large = split i 1 (λ k. at_zero (get_or angles i 0) i q k P-q) (λ k. later i (get_or angles i 0) q k E.least)
    where
      at_zero : (A i q : ℕ) → i < 1 → (2 ^ 7 * n - i * c) * 2 ^ 56 ≤ (q + 1) * (2 ^ 7 * c + i * n) → 2 ^ 43 ≤ A + q
      at_zero A zero q k h = le_trans (le_of_mul-le-mul_right {k = c} (go (mul-le-mul_left (q + 1) least)) c_pos) (le-add_left q A)
        where
          go : (q + 1) * c ≤ (q + 1) * (n * 2 ^ 12) → 2 ^ 43 * c ≤ q * c
          go a = omega (arith, h, least)
      at_zero A (suc i) q k h = absurd (no i k)
        where
          no : (i : ℕ) → suc i < 1 → ⊥
          no i l = omega arith

      later : (i A q : ℕ) → 1 ≤ i → i * 2 ^ 48 ≤ 1 * A → 2 ^ 43 ≤ A + q
      later i A q a b = omega arith

  pub gentle-reduced : Reduced n c (get_or angles i 0) q
  gentle-reduced =
      record {
        x₀ = 128;
        y₀ = i;
        R = R;
        entry = E;
        e_r = R-is;
        far = far (i * n);
        q-low = q-P;
        q-high = P-q;
        most = q-most;
        large = q-large;
        way = inr q-least;
      }
    where
      far : (y : ℕ) → 64 * (c + n) ≤ 128 * c + y
      far y = omega arith

-- ---- a tangent n / c from 1 up
module _ (n c d : ℕ) (top : c ≤ n) (pos : 0 < d) (fine : d * 2 ^ 8 ≤ n) (coarse : 129 * (c + n) ≤ d * (2 ^ 18 - 2 ^ 10)) where
  abbrev at : ℕ
  at = (2 ^ 7 * c + d) / n

  abbrev rest : ℕ
  rest = n * (at + 1) - 2 ^ 7 * c

  abbrev den : ℕ
  den = c * (at + 1) + 2 ^ 7 * n

  abbrev quo : ℕ
  quo = rest * 2 ^ 56 / den

  n_pos : 0 < n
  n_pos = omega arith

  pub at_low : at * n ≤ 2 ^ 7 * c + d
  at_low = div-mul-le_self (2 ^ 7 * c + d) n

  pub at_high : 2 ^ 7 * c + d < at * n + n
  at_high = lt-div-mul-add n_pos

  pub at_lt : at < 129
  at_lt = split at 129 (λ l. l) (λ l. absurd (go at at_low (mul-le-mul_right n l)))
    where
      go : (i : ℕ) → i * n ≤ 2 ^ 7 * c + d → 129 * n ≤ i * n → ⊥
      go i a b = omega arith

  pub rest-is : rest + 2 ^ 7 * c ≡ n * (at + 1)
  rest-is = go at at_high
    where
      go : (i : ℕ) → 2 ^ 7 * c + d < i * n + n → n * (i + 1) - 2 ^ 7 * c + 2 ^ 7 * c ≡ n * (i + 1)
      go i a = omega arith

  pub rest-least : d ≤ rest
  rest-least = go at rest rest-is at_high
    where
      go : (i r : ℕ) → r + 2 ^ 7 * c ≡ n * (i + 1) → 2 ^ 7 * c + d < i * n + n → d ≤ r
      go i r a b = omega arith

  pub rest-most : rest ≤ d + n
  rest-most = go at rest rest-is at_low
    where
      go : (i r : ℕ) → r + 2 ^ 7 * c ≡ n * (i + 1) → i * n ≤ 2 ^ 7 * c + d → r ≤ d + n
      go i r a b = omega arith

  den_pos : 0 < den
  den_pos = go (c * (at + 1)) n_pos
    where
      go : (y : ℕ) → 0 < n → 0 < y + 2 ^ 7 * n
      go y h = omega arith

  pub den-most : den ≤ 129 * (c + n)
  den-most = go (c * (at + 1)) (mul-le-mul_left c (le_of at at_lt))
    where
      le_of : (i : ℕ) → i < 129 → i + 1 ≤ 129
      le_of i k = omega arith

      go : (y : ℕ) → y ≤ c * 129 → y + 2 ^ 7 * n ≤ 129 * (c + n)
      go y k = omega arith

  quo-low : quo * den ≤ rest * 2 ^ 56
  quo-low = div-mul-le_self (rest * 2 ^ 56) den

  quo-high : rest * 2 ^ 56 ≤ (quo + 1) * den
  quo-high = div-high (rest * 2 ^ 56) den den_pos

  pub quo-most : quo ≤ 2 ^ 49 + 2 ^ 41
  quo-most = le_of_mul-le-mul_right {k = n} (go quo rest (c * (at + 1)) quo-low rest-most) n_pos
    where
      go : (q r y : ℕ) → q * (y + 2 ^ 7 * n) ≤ r * 2 ^ 56 → r ≤ d + n → q * n ≤ (2 ^ 49 + 2 ^ 41) * n
      go q r y a b = omega (arith, a, b)

  quo-least : 2 ^ 38 ≤ quo
  quo-least = le_of_mul-le-mul_right {k = d} (go quo rest den quo-high rest-least (mul-le-mul_left (quo + 1) (le_trans den-most coarse))) pos
    where
      go : (q r e : ℕ) → r * 2 ^ 56 ≤ (q + 1) * e → d ≤ r → (q + 1) * e ≤ (q + 1) * (d * (2 ^ 18 - 2 ^ 10)) → 2 ^ 38 * d ≤ q * d
      go q r e a b f = omega (arith, a, b, f)

  pub steep-entry : Entry 1 (at + 1) 128 (half_pi - get_or angles (at + 1) 0)
  steep-entry = entry 1 (at + 1) 128 (half_pi - get_or angles (at + 1) 0) (steep-angle (at + 1) (omega arith) (omega (arith, at_lt)))

  den-is : den ≡ (at + 1) * c + 128 * n
  den-is = go at
    where
      go : (i : ℕ) → c * (i + 1) + 2 ^ 7 * n ≡ (i + 1) * c + 128 * n
      go i = omega arith

  pub steep-reduced : Reduced n c (half_pi - get_or angles (at + 1) 0) quo
  steep-reduced =
      record {
        x₀ = at + 1;
        y₀ = 128;
        R = rest;
        entry = steep-entry;
        e_r = rest-is ∙ mul_comm n (at + 1);
        far = far at;
        q-low = subst (λ (y : ℕ). quo * y ≤ rest * 2 ^ 56) den-is quo-low;
        q-high = subst (λ (y : ℕ). rest * 2 ^ 56 ≤ (quo + 1) * y) den-is quo-high;
        most = quo-most;
        large = large (half_pi - get_or angles (at + 1) 0) quo steep-entry.least;
        way = inr quo-least;
      }
    where
      far : (i : ℕ) → 64 * (c + n) ≤ (i + 1) * c + 128 * n
      far i = omega arith

      large : (A q : ℕ) → 128 * 2 ^ 48 ≤ 1 * A → 2 ^ 43 ≤ A + q
      large A q k = omega arith

-- what `angle_sum` asks of a table's angle and a quotient
pub sum-fits : {A q a b : ℕ} → A ≡ a → q ≡ b → a ≤ 2 ^ 57 - 2 ^ 50 → b ≤ 2 ^ 49 + 2 ^ 41 → (A ≤ 2 ^ 57) × (q < 2 ^ 50)
sum-fits e f h k = (omega arith, omega arith)

-- ---- what the definition gives, for the patterns of 2 ^ -12 up to 2 ^ 26: x = n / c, and its numerator in units of 2 ^ -149 is n * k
pub record Case (a : ℕ) : Type 0 where
  pub n : ℕ
  pub c : ℕ
  pub A : ℕ
  pub q : ℕ
  pub k : ℕ
  pub red : Reduced n c A q
  pub is : atan_mag a ≡ angle_of A q
  pub c_pos : 0 < c
  pub k-pos : 0 < k
  pub unit : c * k ≡ 2 ^ 149
  pub value : digits a * 2 ^ (a / 2 ^ 23 - 1) ≡ n * k

-- d * 2 ^ i, cut by a power (height_integral, which does not stand on this crate, states it too)
pub powers : (d i j k : ℕ) → i ≡ j + k → d * 2 ^ i ≡ d * 2 ^ j * 2 ^ k
powers d i j k e = ap (λ (x : ℕ). d * 2 ^ x) e ∙ ap (λ (x : ℕ). d * x) (pow-add 2 j k) ∙ sym (mul_assoc d (2 ^ j) (2 ^ k))

-- what the steep angles ask of 4 m / e, m being a significand and e at most 2 ^ 25
pub high-top : (m e : ℕ) → 2 ^ 23 ≤ m → e ≤ 2 ^ 25 → e ≤ 4 * m
high-top m e h k = omega arith

pub high-fine : (m : ℕ) → 2 ^ 23 ≤ m → 2 ^ 16 * 2 ^ 8 ≤ 4 * m
high-fine m h = omega arith

pub high-coarse : (m e : ℕ) → m < 2 ^ 24 → e ≤ 2 ^ 25 → 129 * (e + 4 * m) ≤ 2 ^ 16 * (2 ^ 18 - 2 ^ 10)
high-coarse m e h k = omega arith

pub within : (d e i j : ℕ) → 2 ^ 23 ≤ d → d < 2 ^ 24 → i ≤ e → e ≤ j → (2 ^ 23 * 2 ^ i ≤ d * 2 ^ e) × (d * 2 ^ e ≤ 2 ^ 24 * 2 ^ j)
within d e i j l h a b = (mul-le-mul l (pow_mono a), mul-le-mul (le_of_lt h) (pow_mono b))

pub low-is : (a : ℕ) → a < 0x3c00_0000 → atan_mag a ≡ low_angle a
unfolding atan_mag
low-is a h = ap (λ (x : Bool). pick x (low_angle a) (pick (lib.Dec.ltb a 0x3f80_0000) (mid_angle a) (high_angle a))) (lt-ltb _ _ h)

pub mid-is : (a : ℕ) → 0x3c00_0000 ≤ a → a < 0x3f80_0000 → atan_mag a ≡ mid_angle a
unfolding atan_mag
mid-is a l h = ap₂ (λ (x y : Bool). pick x (low_angle a) (pick y (mid_angle a) (high_angle a))) (le-ltb _ _ l) (lt-ltb _ _ h)

pub high_is : (a : ℕ) → 0x3c00_0000 ≤ a → 0x3f80_0000 ≤ a → atan_mag a ≡ high_angle a
unfolding atan_mag
high_is a l h = ap₂ (λ (x y : Bool). pick x (low_angle a) (pick y (mid_angle a) (high_angle a))) (le-ltb _ _ l) (le-ltb _ _ h)

low-case : (a : ℕ) → 0x3980_0000 ≤ a → a < 0x3c00_0000 → Case a
low-case a l h =
    let q = digits a * 2 ^ (a / 2 ^ 23 - 94) in
    let w = within (digits a) (a / 2 ^ 23 - 94) 21 25 (dig-low a) (dig-high a) (omega arith) (omega arith) in
    record {
      n = q;
      c = 2 ^ 56;
      A = 0;
      q = q;
      k = 2 ^ 93;
      red = low-reduced q (le_trans (lit≤ tt) w.0) w.1;
      is = low-is a h;
      c_pos = pow_pos 56;
      k-pos = pow_pos 93;
      unit = refl;
      value = powers (digits a) (a / 2 ^ 23 - 1) (a / 2 ^ 23 - 94) 93 (omega arith);
    }

mid-case : (a : ℕ) → 0x3c00_0000 ≤ a → a < 0x3f80_0000 → Case a
mid-case a l h =
    let X = digits a * 2 ^ (a / 2 ^ 23 - 120) in
    let w = within (digits a) (a / 2 ^ 23 - 120) 0 6 (dig-low a) (dig-high a) (omega arith) (omega arith) in
    record {
      n = X;
      c = 2 ^ 30;
      A = get_or angles ((2 ^ 7 * X - 2 ^ 20) / 2 ^ 30) 0;
      q = (2 ^ 7 * X - (2 ^ 7 * X - 2 ^ 20) / 2 ^ 30 * 2 ^ 30) * 2 ^ 56 / (2 ^ 7 * 2 ^ 30 + (2 ^ 7 * X - 2 ^ 20) / 2 ^ 30 * X);
      k = 2 ^ 119;
      red = gentle-reduced X (2 ^ 30) (2 ^ 20) w.1 (lit< tt) (lit≤ tt) (lit≤ tt) (le_trans (lit≤ tt) (mul-le-mul_right (2 ^ 12) w.0));
      is = mid-is a l h;
      c_pos = pow_pos 30;
      k-pos = pow_pos 119;
      unit = refl;
      value = powers (digits a) (a / 2 ^ 23 - 1) (a / 2 ^ 23 - 120) 119 (omega arith);
    }

high-case : (a : ℕ) → 0x3f80_0000 ≤ a → a < 0x4c80_0000 → Case a
high-case a l h =
    let n = 4 * digits a in
    let z = 152 - a / 2 ^ 23 in
    let e = 2 ^ (152 - a / 2 ^ 23) in
    let top : e ≤ 2 ^ 25 = pow_mono {i = z} {j = 25} (omega arith) in
    let i = (2 ^ 7 * e + 2 ^ 16) / n in
    record {
      n = n;
      c = e;
      A = half_pi - get_or angles (i + 1) 0;
      q = (n * (i + 1) - 2 ^ 7 * e) * 2 ^ 56 / (e * (i + 1) + 2 ^ 7 * n);
      k = 2 ^ (a / 2 ^ 23 - 3);
      red = steep-reduced n e (2 ^ 16) (high-top (digits a) e (dig-low a) top) (lit< tt) (high-fine (digits a) (dig-low a)) (high-coarse (digits a) e (dig-high a) top);
      is = high_is a (omega arith) l;
      c_pos = pow_pos z;
      k-pos = pow_pos (a / 2 ^ 23 - 3);
      unit = sym (pow-add 2 z (a / 2 ^ 23 - 3)) ∙ ap (λ (x : ℕ). 2 ^ x) (sum (a / 2 ^ 23) (omega arith) (omega arith));
      value = powers (digits a) (a / 2 ^ 23 - 1) 2 (a / 2 ^ 23 - 3) (omega arith) ∙ ap (λ (x : ℕ). x * 2 ^ (a / 2 ^ 23 - 3)) (mul_comm (digits a) (2 ^ 2));
    }
  where
    sum : (y : ℕ) → 3 ≤ y → y ≤ 152 → 152 - y + (y - 3) ≡ 149
    sum y g h = omega arith

pub case : (a : ℕ) → 0x3980_0000 ≤ a → a < 0x4c80_0000 → Case a
case a l h = split a 0x3c00_0000 (λ x. low-case a l x) (λ x. split a 0x3f80_0000 (λ y. mid-case a x y) (λ y. high-case a y h))
