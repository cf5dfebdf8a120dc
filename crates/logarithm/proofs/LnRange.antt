-- The parts of the logarithm fit 64 bits: with l leading zeros n * 2 ^ l has 64 digits, so the quotient by d has 39 or 40, and s at most 29.
use mathlib.Core.Path.{◌≡◌, refl, sym, ap, ◌∙◌, subst}
use mathlib.Core.Bool.{Bool}
use Prim.Native.Nat.{ℕ, ◌+◌, ◌-◌, ◌*◌, ◌/◌, ◌^◌, ◌≤◌, ◌<◌}
use native.Mathlib.Nat.{le_trans, le_of_eq, le_of_lt, lt_of_lt_of_le, lt_of_le_of_lt, lt_of_not-le, not-le_of_lt, mul_assoc, mul_right_comm, mul-le-mul, mul-le-mul_left, mul-le-mul_right, le_of_mul-le-mul_right, div-mul-le_self, lt-div-mul-add, zero-div, zero-mul, le-add_left, le-add_right}
use native.Mathlib.Omega.{arith}
use lib.Dec.{leb, leb→le, lit≤, lit<}
use lib.Pow.{pow_pos, pow_mono, pow-add}
use lib.Count.{count_leading_zeros, leading_top}
use lib.ListN.{get_or}
use borrow.Author.Tests.{le-leb, lt-leb}
use Rattle.cases.proofs.Cases.{split}
use Rattle.cases.proofs.Entries.{entry}
use Rattle.fixed.specs.Fixed.{pick}
use Rattle.fixed.proofs.Round.{top_of}
use Rattle.exponential.specs.Tables.{ln2}
use Rattle.logarithm.specs.Tables.{eighths}
use Rattle.logarithm.specs.Ln.{excess_of, quotient, lengthened, twice_of, index, centre, rest_of}

-- ---- the leading zeros l of n, from 1 to 2 ^ 19
pub record Zeros (n : ℕ) : Type 0 where
  pub few : 44 ≤ count_leading_zeros 64 n
  pub most : count_leading_zeros 64 n ≤ 63
  pub full : 2 ^ 63 ≤ n * 2 ^ count_leading_zeros 64 n
  pub fits : n * 2 ^ count_leading_zeros 64 n < 2 ^ 64

pub zeros : (n : ℕ) → 0 < n → n ≤ 2 ^ 19 → Zeros n
zeros n p h =
    let fit : n < 2 ^ 64 = lt_of_le_of_lt h (lit< tt) in
    let t = leading_top 64 n p fit in
    let J : t.0 ≤ 19 = up_to t.0 (le_trans t.2 h) in
    let T = top_of n p fit in
    record { few = omega (arith, t.1); most = T.few; full = T.full; fits = T.fits }
  where
    up_to : (j : ℕ) → 2 ^ j ≤ 2 ^ 19 → j ≤ 19
    up_to j q = below j (lt_of_not-le (λ (g : 20 ≤ j). not-le_of_lt (lit< tt) (le_trans (pow_mono {i = 20} {j = j} g) q)))
      where
        below : (j : ℕ) → j < 20 → j ≤ 19
        below j k = omega arith

-- ---- the excess
pub excess-le : (s : ℕ) → s ≤ 2 ^ 29 → excess_of s ≤ 2 ^ 23
excess-le s h = go (s * s) (mul-le-mul h h)
  where
    go : (x : ℕ) → x ≤ 2 ^ 29 * 2 ^ 29 → (x / 2 ^ 34) / 3 + (x / 2 ^ 34) * (x / 2 ^ 34) / 2 ^ 34 / 5 ≤ 2 ^ 23
    go x k = let a : x / 2 ^ 34 ≤ 2 ^ 24 = omega arith in omega (arith, mul-le-mul a a)

module _ (n d : ℕ) (p : 0 < n) (h : n ≤ 2 ^ 19) (k : 2 ^ 24 ≤ d) where
  abbrev pub l : ℕ
  l = count_leading_zeros 64 n

  abbrev pub q : ℕ
  q = quotient n d

  abbrev pub s : ℕ
  s = q / 2 ^ (l - 34)

  abbrev pub g : ℕ
  g = excess_of s

  abbrev pub w : ℕ
  w = lengthened q g

  Z : Zeros n
  Z = zeros n p h

  pub q-under : q * d ≤ n * 2 ^ l
  q-under = div-mul-le_self (n * 2 ^ l) d

  pub q-over : n * 2 ^ l < q * d + d
  q-over = lt-div-mul-add {a = n * 2 ^ l} {b = d} (lt_of_lt_of_le (lit< tt) k)

  pub q-le : q ≤ 2 ^ 40
  q-le = le_of_mul-le-mul_right {k = 2 ^ 24} (le_trans (mul-le-mul_left q k) (le_trans q-under (le_trans (le_of_lt Z.fits) (lit≤ tt)))) (pow_pos 24)

  -- l is 34 and more
  pub split-34 : 2 ^ l ≡ 2 ^ 34 * 2 ^ (l - 34)
  split-34 = ap (λ (x : ℕ). 2 ^ x) (go l Z.few) ∙ pow-add 2 34 (l - 34)
    where
      go : (l : ℕ) → 44 ≤ l → l ≡ 34 + (l - 34)
      go l h = omega arith

  pub split-37 : 2 ^ l ≡ 2 ^ 37 * 2 ^ (l - 37)
  split-37 = ap (λ (x : ℕ). 2 ^ x) (go l Z.few) ∙ pow-add 2 37 (l - 37)
    where
      go : (l : ℕ) → 44 ≤ l → l ≡ 37 + (l - 37)
      go l h = omega arith

  pub s-under : s * d ≤ n * 2 ^ 34
  s-under =
      le_of_mul-le-mul_right {k = 2 ^ (l - 34)}
      (le_trans (le_of_eq (mul_right_comm s d (2 ^ (l - 34)))) (le_trans (mul-le-mul_right d (div-mul-le_self q (2 ^ (l - 34)))) (le_trans q-under (le_of_eq (ap (λ (x : ℕ). n * x) split-34 ∙ sym (mul_assoc n (2 ^ 34) (2 ^ (l - 34))))))))
      (pow_pos (l - 34))

  pub s-le : s ≤ 2 ^ 29
  s-le = le_of_mul-le-mul_right {k = 2 ^ 24} (le_trans (mul-le-mul_left s k) (le_trans s-under (le_trans (mul-le-mul_right (2 ^ 34) h) (lit≤ tt)))) (pow_pos 24)

  pub g-le : g ≤ 2 ^ 23
  g-le = excess-le s s-le

  pub product_le : q * g ≤ 2 ^ 63
  product_le = le_trans (mul-le-mul q-le g-le) (lit≤ tt)

  pub w_le : w * 1024 ≤ q * 1025
  w_le = omega (arith, mul-le-mul_left q g-le)

  pub w_fits : w ≤ 2 ^ 41
  w_fits = omega (arith, w_le, q-le)

  abbrev a : ℕ
  a = w * 2 ^ 20 / 2 ^ (l - 37)

  a-under : a * 2 ^ (l - 37) ≤ w * 2 ^ 20
  a-under = div-mul-le_self (w * 2 ^ 20) (2 ^ (l - 37))

  a-bound : a * d * 1024 ≤ n * 2 ^ 57 * 1025
  a-bound = le_of_mul-le-mul_right {k = 2 ^ (l - 37)} (go a w q n (2 ^ (l - 37)) (2 ^ l) a-under w_le q-under split-37) (pow_pos (l - 37))
    where
      go : (a w q n P L : ℕ) → a * P ≤ w * 2 ^ 20 → w * 1024 ≤ q * 1025 → q * d ≤ n * L → L ≡ 2 ^ 37 * P → a * d * 1024 * P ≤ n * 2 ^ 57 * 1025 * P
      go a w q n P L x y z e = omega (arith, mul-le-mul_right d x, mul-le-mul_right d y, z, ap (λ (t : ℕ). n * t) e)

  pub bound : twice_of n d * d * 1024 ≤ n * 2 ^ 57 * 1025
  unfolding twice_of
  bound = a-bound

  -- at least one unit of n / d
  pub least : d < 2 ^ 25 → 2 ^ 30 ≤ twice_of n d
  unfolding twice_of
  least u =
      let b : 2 ^ 37 ≤ q = le_of_mul-le-mul_right {k = 2 ^ 25} (omega (arith, q-over, Z.full, mul-le-mul_left q (le_of_lt u))) (pow_pos 25) in
      le_of_mul-le-mul_right {k = 2 ^ 26} (omega (arith, q-less, lt-div-mul-add {a = w * 2 ^ 20} {b = 2 ^ (l - 37)} (pow_pos (l - 37)), mul-le-mul_left a top, top)) (pow_pos 26)
    where
      q-less : q ≤ w
      q-less = omega arith

      top : 2 ^ (l - 37) ≤ 2 ^ 26
      top = pow_mono {i = l - 37} {j = 26} (omega (arith, Z.most))

pub twice-zero : (d : ℕ) → 0 < d → twice_of 0 d ≡ 0
unfolding twice_of
twice-zero d h = go (2 ^ count_leading_zeros 64 0) (2 ^ (count_leading_zeros 64 0 - 34)) (2 ^ (count_leading_zeros 64 0 - 37))
  where
    none : (x y : ℕ) → x ≡ 0 → x / y ≡ 0
    none x y e = ap (λ (z : ℕ). z / y) e ∙ zero-div y

    go : (L M N : ℕ) → lengthened (0 * L / d) (excess_of (0 * L / d / M)) * 2 ^ 20 / N ≡ 0
    go L M N = none (lengthened (0 * L / d) (excess_of (0 * L / d / M)) * 2 ^ 20) N (at (0 * L / d) (excess_of (0 * L / d / M)) (none (0 * L) d (omega arith)))
      where
        at : (x y : ℕ) → x ≡ 0 → lengthened x y * 2 ^ 20 ≡ 0
        at x y e = ap (λ (z : ℕ). lengthened z y * 2 ^ 20) e ∙ ap (λ (z : ℕ). (0 + z / 2 ^ 34) * 2 ^ 20) (zero-mul y)

-- at most 1 / 16 and a little
pub twice-le : (n d : ℕ) → n ≤ 2 ^ 19 → 2 ^ 24 ≤ d → twice_of n d ≤ 2 ^ 52 + 2 ^ 42
twice-le n d h k =
    split 0 n
    (λ p. go (twice_of n d) (bound n d p h k))
    (λ z. subst (λ (x : ℕ). twice_of x d ≤ 2 ^ 52 + 2 ^ 42) (omega arith) (le_trans (le_of_eq (twice-zero d (lt_of_lt_of_le (lit< tt) k))) (lit≤ tt)))
  where
    go : (a : ℕ) → a * d * 1024 ≤ n * 2 ^ 57 * 1025 → a ≤ 2 ^ 52 + 2 ^ 42
    go a b = le_of_mul-le-mul_right {k = 2 ^ 34} (omega (arith, b, mul-le-mul_left a k)) (pow_pos 34)

-- ---- the table: between the chord and the line on beyond its last two entries
steep : ℕ → ℕ → Bool
steep i y = leb (i * 6243314768165359) y

flat : ℕ → ℕ → Bool
flat i y = leb (y + (8 - i) * 4650490555939334) ln2

pub eighth-ge : (i : ℕ) → i < 9 → i * 6243314768165359 ≤ get_or eighths i 0
unfolding steep eighths
eighth-ge i h = leb→le (i * 6243314768165359) (get_or eighths i 0) (entry steep eighths tt i h)

pub eighth-le : (i : ℕ) → i < 9 → get_or eighths i 0 + (8 - i) * 4650490555939334 ≤ ln2
unfolding flat eighths
eighth-le i h = leb→le (get_or eighths i 0 + (8 - i) * 4650490555939334) ln2 (entry flat eighths tt i h)

pub eighth-0 : get_or eighths 0 0 ≡ 0
unfolding eighths
eighth-0 = refl

pub eighth-8 : get_or eighths 8 0 ≡ ln2
unfolding eighths
eighth-8 = refl

-- ---- ln (m / 2 ^ 23), in its two cases
module _ (m : ℕ) (low : 2 ^ 23 ≤ m) (high : m < 2 ^ 24) where
  pub index-le : index m < 9
  index-le = omega arith

  abbrev pub tabled : ℕ
  tabled = get_or eighths (index m) 0

  pub up-near : m - centre m ≤ 2 ^ 19
  up-near = omega arith

  pub down-near : centre m - m ≤ 2 ^ 19
  down-near = omega arith

  pub sum-ge : 2 ^ 24 ≤ m + centre m
  sum-ge = omega arith

  pub sum_lt : m + centre m < 2 ^ 25
  sum_lt = omega arith

  pub rest_up : centre m ≤ m → rest_of m ≡ tabled + twice_of (m - centre m) (m + centre m)
  unfolding rest_of
  rest_up h = ap (λ (x : Bool). pick x (tabled + twice_of (m - centre m) (m + centre m)) (tabled - twice_of (centre m - m) (m + centre m))) (le-leb _ _ h)

  pub rest-down : m < centre m → rest_of m ≡ tabled - twice_of (centre m - m) (m + centre m)
  unfolding rest_of
  rest-down h = ap (λ (x : Bool). pick x (tabled + twice_of (m - centre m) (m + centre m)) (tabled - twice_of (centre m - m) (m + centre m))) (lt-leb _ _ h)

  pub up_le : twice_of (m - centre m) (m + centre m) ≤ 2 ^ 52 + 2 ^ 42
  up_le = twice-le (m - centre m) (m + centre m) up-near sum-ge

  pub down_le : twice_of (centre m - m) (m + centre m) ≤ 2 ^ 52 + 2 ^ 42
  down_le = twice-le (centre m - m) (m + centre m) down-near sum-ge

  -- below the nearest eighth there is an eighth
  pub down-index : m < centre m → 1 ≤ index m
  down-index h = omega arith

  pub taken : m < centre m → twice_of (centre m - m) (m + centre m) ≤ tabled
  taken h = go (index m) (twice_of (centre m - m) (m + centre m)) tabled (down-index h) down_le (eighth-ge (index m) index-le)
    where
      go : (i a y : ℕ) → 1 ≤ i → a ≤ 2 ^ 52 + 2 ^ 42 → i * 6243314768165359 ≤ y → a ≤ y
      go i a y p q r = omega arith

  -- at least 2 ^ 30 units above 0, but at m = 2 ^ 23
  pub rest-ge : 2 ^ 23 < m → 2 ^ 30 ≤ rest_of m
  rest-ge n =
      split m (centre m)
      (λ h. le_trans (go (index m) (twice_of (centre m - m) (m + centre m)) tabled (down-index h) down_le (eighth-ge (index m) index-le)) (le_of_eq (sym (rest-down h))))
      (λ h. le_trans (split (index m) 1 (λ i. le_trans (least (m - centre m) (m + centre m) (omega arith) up-near sum-ge sum_lt) (le-add_left (twice_of (m - centre m) (m + centre m)) tabled)) (λ i. le_trans (large (index m) tabled i (eighth-ge (index m) index-le)) (le-add_right tabled (twice_of (m - centre m) (m + centre m))))) (le_of_eq (sym (rest_up h))))
    where
      go : (i a y : ℕ) → 1 ≤ i → a ≤ 2 ^ 52 + 2 ^ 42 → i * 6243314768165359 ≤ y → 2 ^ 30 ≤ y - a
      go i a y p q r = omega arith

      large : (i y : ℕ) → 1 ≤ i → i * 6243314768165359 ≤ y → 2 ^ 30 ≤ y
      large i y p q = omega arith

  -- and so is the sum with e times ln 2
  pub sum-big : (e : ℕ) → 2 ^ 23 < m + e → 2 ^ 30 ≤ e * ln2 + rest_of m
  sum-big e k = split (2 ^ 23) m (λ h. le_trans (rest-ge h) (le-add_left (rest_of m) (e * ln2))) (λ h. many e (rest_of m) (omega arith))
    where
      many : (e y : ℕ) → 1 ≤ e → 2 ^ 30 ≤ e * ln2 + y
      many e y h = omega arith

  -- at least 2 ^ 30 units below ln 2
  pub rest_le : rest_of m + 2 ^ 30 ≤ ln2
  rest_le =
      split (index m) 8
      (λ i. split m (centre m)
      (λ h. subst (λ (x : ℕ). x + 2 ^ 30 ≤ ln2) (sym (rest-down h)) (less (index m) (twice_of (centre m - m) (m + centre m)) tabled i (eighth-le (index m) index-le)))
      (λ h. subst (λ (x : ℕ). x + 2 ^ 30 ≤ ln2) (sym (rest_up h)) (plus (index m) (twice_of (m - centre m) (m + centre m)) tabled i (eighth-le (index m) index-le) up_le)))
      (λ i. let h : m < centre m = omega arith in
      subst (λ (x : ℕ). x + 2 ^ 30 ≤ ln2) (sym (rest-down h)) (last (twice_of (centre m - m) (m + centre m)) tabled (eighth-le (index m) index-le) (taken h) (least (centre m - m) (m + centre m) (omega arith) down-near sum-ge sum_lt)))
    where
      less : (i a y : ℕ) → i < 8 → y + (8 - i) * 4650490555939334 ≤ ln2 → y - a + 2 ^ 30 ≤ ln2
      less i a y p q = omega arith

      plus : (i a y : ℕ) → i < 8 → y + (8 - i) * 4650490555939334 ≤ ln2 → a ≤ 2 ^ 52 + 2 ^ 42 → y + a + 2 ^ 30 ≤ ln2
      plus i a y p q r = omega arith

      last : (a y : ℕ) → y + (8 - index m) * 4650490555939334 ≤ ln2 → a ≤ y → 2 ^ 30 ≤ a → y - a + 2 ^ 30 ≤ ln2
      last a y p q r = omega arith
