-- From the quotient q of a reduced x to the rounded angle: less than one unit of its last place.
use mathlib.Core.Path.{◌≡◌, ap, ◌∙◌, subst}
use mathlib.Core.Logic.{◌⊎◌, inl, inr}
use Prim.Native.Nat.{ℕ, ◌+◌, ◌-◌, ◌*◌, ◌/◌, ◌^◌, ◌≤◌, ◌<◌}
use native.Mathlib.Nat.{le_trans, le_of_eq, mul-le-mul, mul-le-mul_left, mul-le-mul_right, le_of_mul-le-mul_right, div-mul-le_self}
use native.Mathlib.Omega.{arith}
use lib.Pow.{pow_pos, pow_mono, pow-add}
use lib.Dec.{lit≤}
use lib.Count.{count_leading_zeros}
use lib.Ieee.{size}
use Rattle.fixed.specs.Fixed.{mant}
use Rattle.arcs.specs.Atan.{cube_of, angle_of}
use Rattle.series.specs.Series.{SinLe, SinGe}
use Rattle.fixed.proofs.Round.{grain, rounded, place, place_is}
use Rattle.fixed.proofs.Values.{ulp-exp}
use Rattle.series.proofs.Bounds.{ge-scaled}
use Rattle.arc_tables.proofs.Angles.{Entry}
use Rattle.arcs.proofs.Step.{below, over}

-- x = n / c, brought by the table's angle A to a small angle whose tangent is q * 2 ^ -56, within that unit
pub record Reduced (n c A q : ℕ) : Type 0 where
  pub x₀ : ℕ
  pub y₀ : ℕ
  pub R : ℕ
  pub entry : Entry 1 x₀ y₀ A
  pub e_r : R + y₀ * c ≡ x₀ * n
  pub far : 64 * (c + n) ≤ x₀ * c + y₀ * n
  pub q-low : q * (x₀ * c + y₀ * n) ≤ R * 2 ^ 56
  pub q-high : R * 2 ^ 56 ≤ (q + 1) * (x₀ * c + y₀ * n)
  pub most : q ≤ 2 ^ 49 + 2 ^ 41
  pub large : 2 ^ 43 ≤ A + q
  pub way : (A ≡ 0) ⊎ (2 ^ 38 ≤ q)

-- ---- the cube
pub cube-low : (q : ℕ) → 3 * (2 ^ 56 * 2 ^ 56) * cube_of q ≤ q * q * q
cube-low q =
    let p = q * q / 2 ^ 48 in
    let r = q * p / 2 ^ 64 in
    let a : p * 2 ^ 48 ≤ q * q = div-mul-le_self (q * q) (2 ^ 48) in
    let b : r * 2 ^ 64 ≤ q * p = div-mul-le_self (q * p) (2 ^ 64) in
    let c : r / 3 * 3 ≤ r = div-mul-le_self r 3 in
    go q p r (r / 3) (mul-le-mul_left q a) b c
  where
    go : (q p r j : ℕ) → q * (p * 2 ^ 48) ≤ q * (q * q) → r * 2 ^ 64 ≤ q * p → j * 3 ≤ r → 3 * (2 ^ 56 * 2 ^ 56) * j ≤ q * q * q
    go q p r j a b c = omega arith

pub cube-high : (q : ℕ) → q ≤ 2 ^ 64 → q * q * q ≤ 3 * (2 ^ 56 * 2 ^ 56) * (cube_of q + 2)
cube-high q h =
    let p = q * q / 2 ^ 48 in
    let r = q * p / 2 ^ 64 in
    let a : q * q ≤ p * 2 ^ 48 + 2 ^ 48 = omega arith in
    let b : q * p ≤ r * 2 ^ 64 + 2 ^ 64 = omega arith in
    let c : r ≤ r / 3 * 3 + 2 = omega arith in
    go q p r (r / 3) h (mul-le-mul_left q a) b c
  where
    go : (q p r j : ℕ) → q ≤ 2 ^ 64 → q * (q * q) ≤ q * (p * 2 ^ 48 + 2 ^ 48) → q * p ≤ r * 2 ^ 64 + 2 ^ 64 → r ≤ j * 3 + 2 → q * q * q ≤ 3 * (2 ^ 56 * 2 ^ 56) * (j + 2)
    go q p r j h a b c = omega arith

pub cube-small : (q : ℕ) → q ≤ 2 ^ 50 → 4 * cube_of q ≤ q
cube-small q h = le_of_mul-le-mul_right {k = 2 ^ 100} (go (2 ^ 100) (cube_of q) (q * q) (cube-low q) (mul-le-mul h h)) (pow_pos 100)
  where
    go : (t j s : ℕ) → 3 * (2 ^ 12 * t) * j ≤ s * q → s ≤ t → 4 * j * t ≤ q * t
    go t j s a b = omega (arith, mul-le-mul_right q b)

pub wide-le : (w v : ℕ) → w ≤ 2 ^ 31 * v → 33 * (w / 2 ^ 33 + 2) ≤ 9 * v + 66
wide-le w v h = omega arith

pub part-le : (q v : ℕ) → q ≤ 2 ^ 31 * v → q / 2 ^ 29 ≤ 4 * v
part-le q v h = omega arith

-- ---- the rounding of an angle s: p is the significand times o, o a 64th of its unit, and v that of the result's unit
pub record Sizes (s p o v : ℕ) : Type 0 where
  pub s-over : 64 * p ≤ s + 32 * o
  pub s-under : s ≤ 64 * p + 32 * o
  pub p-most : p ≤ 2 ^ 24 * o
  pub p-least : 2 ^ 23 * o ≤ p
  pub o-v : o ≤ v
  pub v-o : v ≤ 2 * o

module _ (A q j p o v : ℕ) (Z : Sizes (A + (q - j)) p o v) (J : 4 * j ≤ q) (most : q ≤ 2 ^ 49 + 2 ^ 41) (large : 2 ^ 43 ≤ A + q) (A-most : A ≤ 2 ^ 57 - 2 ^ 50) where
  o-small : (A ≡ 0) ⊎ (2 ^ 38 ≤ q) → 736 * o ≤ q
  o-small (inl e) = omega (arith, Z.s-over, Z.p-least)
  o-small (inr l) = omega (arith, Z.s-over, Z.p-least)

  pub v-large : 2 ^ 12 ≤ 2 * v + 2
  v-large = omega (arith, Z.s-under, Z.p-most, Z.o-v)

  module _ (small : 736 * o ≤ q) where
    pub w₁ : ℕ
    w₁ = 64 * p - 60 * v - A

    pub w₂ : ℕ
    w₂ = 64 * p + 60 * v - A

    abbrev pub wide : ℕ → ℕ
    wide w = w / 2 ^ 33 + 2

    pub at₁ : A + w₁ ≡ 64 * p - 60 * v
    unfolding w₁
    at₁ = omega (arith, Z.s-under, Z.v-o)

    pub at₂ : A + w₂ ≡ 64 * p + 60 * v
    unfolding w₂
    at₂ = omega (arith, Z.s-under)

    pub core₁ : w₁ + j + 28 * v ≤ q
    core₁ = omega (arith, at₁, Z.s-over, Z.s-under, Z.o-v, Z.v-o)

    pub core₂ : q + 28 * v ≤ w₂ + j
    core₂ = omega (arith, at₂, Z.s-under, Z.o-v)

    pub less₁ : w₁ ≤ 2 ^ 31 * v
    less₁ = omega (arith, at₁, Z.p-most, Z.o-v)

    pub less₂ : w₂ ≤ 2 ^ 31 * v
    less₂ = omega (arith, at₂, Z.p-most, Z.o-v)

    pub q-less : q ≤ 2 ^ 31 * v
    q-less = omega (arith, Z.s-under, Z.p-most, Z.o-v)

    room₁ : w₁ + (j + 3 + (2571 + 33 * wide w₁)) ≤ q
    room₁ = go w₁ (wide w₁) core₁ (wide-le w₁ v less₁)
      where
        go : (w d : ℕ) → w + j + 28 * v ≤ q → 33 * d ≤ 9 * v + 66 → w + (j + 3 + (2571 + 33 * d)) ≤ q
        go w d a e = omega (arith, v-large)

    room₂ : q + (2 + (q / 2 ^ 29 + 1) + (2571 + 33 * wide w₂)) ≤ w₂ + j
    room₂ = go w₂ (wide w₂) (q / 2 ^ 29) core₂ (wide-le w₂ v less₂) (part-le q v q-less)
      where
        go : (w d x : ℕ) → q + 28 * v ≤ w + j → 33 * d ≤ 9 * v + 66 → x ≤ 4 * v → q + (2 + (x + 1) + (2571 + 33 * d)) ≤ w + j
        go w d x a e f = omega (arith, v-large)

    pub fits₁ : 120 * w₁ ≤ 2 ^ 56
    fits₁ = omega (arith, at₁, Z.s-over, Z.o-v, Z.v-o)

    pub fits₂ : (120 * w₂ ≤ 2 ^ 56) × (w₂ ≤ 2 * q)
    fits₂ = (omega (arith, at₂, Z.s-over, Z.v-o), omega (arith, at₂, Z.s-over, Z.v-o))

pub wide_ok : (w : ℕ) → w + 2 ^ 33 ≤ (w / 2 ^ 33 + 2) * 2 ^ 33
wide_ok w = omega arith

pub x-ok : (q : ℕ) → q ≤ (q / 2 ^ 29 + 1) * 2 ^ 29
x-ok q = omega arith

-- ---- the two ends, 60 v below and above the rounded angle
module _ (n c A q p o v : ℕ) (X : Reduced n c A q) (Z : Sizes (angle_of A q) p o v) where
  pub q-fits : q ≤ 2 ^ 50
  q-fits = omega (arith, X.most)

  pub J : 4 * cube_of q ≤ q
  J = cube-small q q-fits

  pub small : 736 * o ≤ q
  small = o-small A q (cube_of q) p o v Z J X.most X.large X.entry.most X.way

  pub end-le : SinLe (64 * p - 60 * v) (2 ^ 56) n c
  end-le =
      let w = w₁ A q (cube_of q) p o v Z J X.most X.large X.entry.most small in
      subst (λ (y : ℕ). SinLe y (2 ^ 56) n c) (at₁ A q (cube_of q) p o v Z J X.most X.large X.entry.most small)
      (below (2 ^ 56) w (w / 2 ^ 33 + 2) (pow_pos 56) (fits₁ A q (cube_of q) p o v Z J X.most X.large X.entry.most small) (wide_ok w)
      1 X.x₀ X.y₀ A X.entry.C X.entry.S X.entry.a₂ X.entry.a₃ c n X.R X.entry.fit X.e_r (omega (arith, X.far)) q (cube_of q)
      X.q-low (cube-high q (le_trans q-fits (lit≤ tt))) (room₁ A q (cube_of q) p o v Z J X.most X.large X.entry.most small))

  pub end_ge : SinGe (64 * p + 60 * v) (2 ^ 56) n c
  end_ge =
      let w = w₂ A q (cube_of q) p o v Z J X.most X.large X.entry.most small in
      let F = fits₂ A q (cube_of q) p o v Z J X.most X.large X.entry.most small in
      subst (λ (y : ℕ). SinGe y (2 ^ 56) n c) (at₂ A q (cube_of q) p o v Z J X.most X.large X.entry.most small)
      (over (2 ^ 56) w (w / 2 ^ 33 + 2) (pow_pos 56) F.0 (wide_ok w)
      1 X.x₀ X.y₀ A X.entry.C X.entry.S X.entry.a₂ X.entry.a₃ c n X.R X.entry.fit X.e_r (omega (arith, X.far)) q (cube_of q)
      (q / 2 ^ 29 + 1) X.q-high (omega (arith, X.most)) F.1 (omega (arith, small, Z.o-v, v-large A q (cube_of q) p o v Z J X.most X.large X.entry.most, Z.v-o)) (x-ok q) (cube-low q) (room₂ A q (cube_of q) p o v Z J X.most X.large X.entry.most small))

  -- the angle stays below 2
  pub end-2 : 64 * p + 60 * v ≤ 2 ^ 57
  end-2 = go A q (cube_of q) Z.s-over Z.v-o small X.most X.entry.most
    where
      go : (A q j : ℕ) → 64 * p ≤ A + (q - j) + 32 * o → v ≤ 2 * o → 736 * o ≤ q → q ≤ 2 ^ 49 + 2 ^ 41 → A ≤ 2 ^ 57 - 2 ^ 50 → 64 * p + 60 * v ≤ 2 ^ 57
      go A q j a b d e f = omega (arith, a, b, d, e, f)

-- ---- a rounded angle s in the units of the statement
-- the result's unit, in units of 2 ^ -50
abbrev pub v : ℕ → ℕ
v s = 2 ^ (size (mant s * place s) - 24 - 99)

module _ (s : ℕ) (big : 2 ^ 30 ≤ s) (fits : s < 2 ^ 64) where
  exps : (133 - count_leading_zeros 64 s ≤ size (mant s * place s) - 24) × (size (mant s * place s) - 24 ≤ 133 - count_leading_zeros 64 s + 1)
  exps = ulp-exp (mant s) (133 - count_leading_zeros 64 s) (rounded s big fits).least (rounded s big fits).most

  pub sizes : Sizes s (mant s * grain s) (grain s) (v s)
  sizes =
      record {
        s-over = (rounded s big fits).over;
        s-under = (rounded s big fits).under;
        p-most = mul-le-mul_right (grain s) (rounded s big fits).most;
        p-least = mul-le-mul_right (grain s) (rounded s big fits).least;
        o-v = pow_mono (low (count_leading_zeros 64 s) (size (mant s * place s)) exps.0);
        v-o = le_trans (pow_mono (high (count_leading_zeros 64 s) (size (mant s * place s)) (rounded s big fits).few exps.1)) (le_of_eq (pow-add 2 1 (34 - count_leading_zeros 64 s)));
      }
    where
      low : (l z : ℕ) → 133 - l ≤ z - 24 → 34 - l ≤ z - 24 - 99
      low l z h = omega arith

      high : (l z : ℕ) → l ≤ 33 → z - 24 ≤ 133 - l + 1 → z - 24 - 99 ≤ 1 + (34 - l)
      high l z h k = omega arith

  unit-is : 2 ^ (size (mant s * place s) - 24) ≡ 2 ^ 99 * v s
  unit-is = ap (λ (x : ℕ). 2 ^ x) (go (count_leading_zeros 64 s) (size (mant s * place s)) (rounded s big fits).few exps.0) ∙ pow-add 2 99 (size (mant s * place s) - 24 - 99)
    where
      go : (l z : ℕ) → l ≤ 33 → 133 - l ≤ z - 24 → z - 24 ≡ 99 + (z - 24 - 99)
      go l z h k = omega arith

  pub high_is : (64 * (mant s * grain s) + 60 * v s) * 2 ^ 97 ≡ 16 * (mant s * place s) + 15 * 2 ^ (size (mant s * place s) - 24)
  high_is = go (mant s) (grain s) (v s) (place s) (2 ^ (size (mant s * place s) - 24)) (place_is s (rounded s big fits).few) unit-is
    where
      go : (m o v P U : ℕ) → P ≡ 2 ^ 99 * o → U ≡ 2 ^ 99 * v → (64 * (m * o) + 60 * v) * 2 ^ 97 ≡ 16 * (m * P) + 15 * U
      go m o v P U e f = omega (arith, ap (λ (x : ℕ). m * x) e)

-- ---- the two ends of s = A + (q - q³ / 3), rounded
module _ (n c A q : ℕ) (X : Reduced n c A q) (big : 2 ^ 30 ≤ angle_of A q) (fits : angle_of A q < 2 ^ 64) where
  abbrev s : ℕ
  s = angle_of A q

  pub angle-ge : SinGe (16 * (mant s * place s) + 15 * 2 ^ (size (mant s * place s) - 24)) (16 * 2 ^ 149) n c
  angle-ge = subst (λ (y : ℕ). SinGe y (16 * 2 ^ 149) n c) (high_is s big fits) (ge-scaled (64 * (mant s * grain s) + 60 * v s) (2 ^ 56) n c (2 ^ 97) (end_ge n c A q (mant s * grain s) (grain s) (v s) X (sizes s big fits)))

  pub angle-2 : 16 * (mant s * place s) + 15 * 2 ^ (size (mant s * place s) - 24) ≤ 2 * (16 * 2 ^ 149)
  angle-2 = subst (λ (y : ℕ). y ≤ 2 * (16 * 2 ^ 149)) (high_is s big fits) (mul-le-mul_right (2 ^ 97) (end-2 n c A q (mant s * grain s) (grain s) (v s) X (sizes s big fits)))
