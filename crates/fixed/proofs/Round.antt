-- A whole number rounded to 24 bits is at most half a unit of its last place away.
use mathlib.Core.Path.{◌≡◌, sym, ap, ◌∙◌, subst}
use Prim.Native.Nat.{ℕ, suc, ◌+◌, ◌-◌, ◌*◌, ◌/◌, ◌^◌, ◌≤◌, ◌<◌}
use native.Mathlib.Nat.{le_trans, le_of_eq, lt_of_not-le, not-le_of_lt, lt_of_le_of_lt, lt_of_lt_of_le, mul-le-mul_right, mul-lt-mul_of_pos_right}
use native.Mathlib.Omega.{arith}
use lib.Dec.{lit<}
use lib.Pow.{pow_pos, pow_mono, pow-add}
use lib.Count.{count_leading_zeros, leading_top}
use Rattle.fixed.specs.Fixed.{mant, pattern}

-- 64 grains are the unit of the last place of s
abbrev pub grain : ℕ → ℕ
grain s = 2 ^ (34 - count_leading_zeros 64 s)

-- ---- s moved up by its leading zeros
pub record Top (s : ℕ) : Type 0 where
  pub few : count_leading_zeros 64 s ≤ 63
  pub fits : s * 2 ^ count_leading_zeros 64 s < 2 ^ 64
  pub full : 2 ^ 63 ≤ s * 2 ^ count_leading_zeros 64 s

pub top_of : (s : ℕ) → 0 < s → s < 2 ^ 64 → Top s
top_of s p h =
    let l = count_leading_zeros 64 s in
    let t = leading_top 64 s p h in
    let e : suc t.0 + l ≡ 64 = omega (arith, t.1) in
    let f : t.0 + l ≡ 63 = omega (arith, t.1) in
    record {
      few = omega (arith, f);
      fits = subst (λ (x : ℕ). s * 2 ^ l < 2 ^ x) e (lt_of_lt_of_le (mul-lt-mul_of_pos_right t.3 (pow_pos l)) (le_of_eq (sym (pow-add 2 (suc t.0) l))));
      full = subst (λ (x : ℕ). 2 ^ x ≤ s * 2 ^ l) f (le_trans (le_of_eq (pow-add 2 t.0 l)) (mul-le-mul_right (2 ^ l) t.2));
    }

-- ---- and rounded
pub record Rounded (s : ℕ) : Type 0 where
  pub few : count_leading_zeros 64 s ≤ 33
  pub up : s * 2 ^ count_leading_zeros 64 s < 2 ^ 64
  pub wide : 2 ≤ grain s
  pub least : 2 ^ 23 ≤ mant s
  pub most : mant s ≤ 2 ^ 24
  pub over : 64 * (mant s * grain s) ≤ s + 32 * grain s
  pub under : s ≤ 64 * (mant s * grain s) + 32 * grain s

-- v is s moved up, o * c = 2 ^ 34
over-at : (s c o : ℕ) → o * c ≡ 2 ^ 34 → 64 * ((s * c / 2 ^ 39 + 1) / 2 * o) ≤ s + 32 * o
over-at s c o e =
    let m = (s * c / 2 ^ 39 + 1) / 2 in
    let a : 2 ^ 40 * m ≤ s * c + 2 ^ 39 = omega arith in
    let b = mul-le-mul_right o a in
    let f : s * (o * c) ≡ s * 2 ^ 34 = ap (λ (x : ℕ). s * x) e in
    omega (arith, b, f)

under_at : (s c o : ℕ) → o * c ≡ 2 ^ 34 → s ≤ 64 * ((s * c / 2 ^ 39 + 1) / 2 * o) + 32 * o
under_at s c o e =
    let m = (s * c / 2 ^ 39 + 1) / 2 in
    let a : s * c ≤ 2 ^ 40 * m + 2 ^ 39 = omega arith in
    let b = mul-le-mul_right o a in
    let f : s * (o * c) ≡ s * 2 ^ 34 = ap (λ (x : ℕ). s * x) e in
    omega (arith, b, f)

pub rounded : (s : ℕ) → 2 ^ 30 ≤ s → s < 2 ^ 64 → Rounded s
rounded s big fits =
    let l = count_leading_zeros 64 s in
    let top = leading_top 64 s (lt_of_lt_of_le (lit< tt) big) fits in
    let j = top.0 in
    let e : l + suc j ≡ 64 = top.1 in
    let j30 : 30 ≤ j = above j (lt_of_le_of_lt big top.3) in
    let few : l ≤ 33 = omega arith in
    let T = top_of s (lt_of_lt_of_le (lit< tt) big) fits in
    let oc : 2 ^ (34 - l) * 2 ^ l ≡ 2 ^ 34 = sym (pow-add 2 (34 - l) l) ∙ ap (λ (x : ℕ). 2 ^ x) (back l few) in
    record {
      few = few;
      up = T.fits;
      wide = pow_mono {i = 1} {j = 34 - l} (omega arith);
      least = omega arith;
      most = omega arith;
      over = over-at s (2 ^ l) (2 ^ (34 - l)) oc;
      under = under_at s (2 ^ l) (2 ^ (34 - l)) oc;
    }
  where
    above : (j : ℕ) → 2 ^ 30 < 2 ^ suc j → 30 ≤ j
    above j h = lt_of_not-le (λ (g : j ≤ 29). not-le_of_lt h (pow_mono {i = suc j} {j = 30} (omega arith)))

    back : (l : ℕ) → l ≤ 33 → 34 - l + l ≡ 34
    back l h = omega arith

-- the unit of the last place of s * 2 ^ -56, in units of 2 ^ -149
abbrev pub place : ℕ → ℕ
place s = 2 ^ (133 - count_leading_zeros 64 s)

pub place_is : (s : ℕ) → count_leading_zeros 64 s ≤ 33 → place s ≡ 2 ^ 99 * grain s
place_is s h = ap (λ (x : ℕ). 2 ^ x) (go (count_leading_zeros 64 s) h) ∙ pow-add 2 99 (34 - count_leading_zeros 64 s)
  where
    go : (l : ℕ) → l ≤ 33 → 133 - l ≡ 99 + (34 - l)
    go l g = omega arith

-- below the patterns of infinity and NaN
pub pattern_lt : (s : ℕ) → 2 ^ 30 ≤ s → s < 2 ^ 64 → pattern s < 255 * 2 ^ 23
pattern_lt s h k =
    let m : mant s ≤ 2 ^ 24 = (rounded s h k).most in
    go (count_leading_zeros 64 s) (mant s) m
  where
    go : (l m : ℕ) → m ≤ 2 ^ 24 → (133 - l) * 2 ^ 23 + m < 255 * 2 ^ 23
    go l m h = omega arith
