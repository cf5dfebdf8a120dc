-- `twice_of n d`, give or take a 2 ^ 26th part of it and three units, bounds ln ((d + n) / (d - n)): what is cut off on the way is a 2 ^ 32nd part, and the polynomial is a 2 ^ 27th part from the logarithm.
use mathlib.Core.Path.{◌≡◌, refl, sym, ap, ◌∙◌, subst}
use Prim.Native.Nat.{ℕ, ◌+◌, ◌-◌, ◌*◌, ◌/◌, ◌^◌, ◌≤◌, ◌<◌, zero-le}
use native.Mathlib.Nat.{le_trans, le_of_eq, le_of_lt, lt_of_lt_of_le, mul_assoc, mul-le-mul, mul-le-mul_left, mul-le-mul_right, mul-pos, le_of_mul-le-mul_right, div-mul-le_self, lt-div-mul-add, le-add_right}
use native.Mathlib.Omega.{arith}
use lib.Dec.{lit≤, lit<}
use lib.Pow.{pow_pos}
use lib.Count.{count_leading_zeros}
use Rattle.cases.proofs.Cases.{split}
use Rattle.logarithm.specs.Ln.{quotient, lengthened, twice_of}
use Rattle.logarithm.proofs.LnRange as range
use Rattle.series.specs.Series.{ExpLe, ExpGe}
use Rattle.exponential_bounds.proofs.Exponents.{lower-le, upper-ge, same-le, same-ge}
use Rattle.exponential_bounds.specs.OwnSeries.{three_terms}
use Rattle.exponential_bounds.proofs.Atanh.{unit, lower, upper, atanh-le, atanh-ge}

-- ---- from above: with N = n² and D = d², u ≤ 2 ^ 34 s², v ≤ 2 ^ 34 s⁴, g ≤ 2 ^ 34 (s² / 3 + s⁴ / 5)
abbrev bracket : (N D : ℕ) → ℕ
bracket N D = 15 * (D * D) + 5 * (N * D) + 3 * (N * N)

three_terms-is : (n D : ℕ) → three_terms n D ≡ n * bracket (n * n) D
three_terms-is n D = omega arith

square_le : (n d s u : ℕ) → s * d ≤ n * 2 ^ 34 → u * 2 ^ 34 ≤ s * s → u * (d * d) ≤ n * n * 2 ^ 34
square_le n d s u h k = le_of_mul-le-mul_right {k = 2 ^ 34} (omega (arith, mul-le-mul_right (d * d) k, mul-le-mul h h)) (pow_pos 34)

excess-le : (N D u v g : ℕ) → 15 * g ≤ 5 * u + 3 * v → u * D ≤ N * 2 ^ 34 → v * (D * D) ≤ N * N * 2 ^ 34 → 15 * g * (D * D) ≤ 2 ^ 34 * (5 * (N * D) + 3 * (N * N))
excess-le N D u v g a b c = omega (arith, mul-le-mul_right (D * D) a, mul-le-mul_right D b, c)

longer-le : (N D q g w : ℕ) → w * 2 ^ 34 ≤ q * 2 ^ 34 + q * g → 15 * g * (D * D) ≤ 2 ^ 34 * (5 * (N * D) + 3 * (N * N)) → 15 * (D * D) * w ≤ q * bracket N D
longer-le N D q g w a b = le_of_mul-le-mul_right {k = 2 ^ 34} (omega (arith, mul-le-mul_left (15 * (D * D)) a, mul-le-mul_left q b)) (pow_pos 34)

whole_le : (n d q w a p β F : ℕ) → 0 < p → 15 * F * w ≤ q * β → q * d ≤ n * (2 ^ 37 * p) → a * p ≤ w * 2 ^ 20 → 15 * (F * d) * a ≤ 2 ^ 57 * (n * β)
whole_le n d q w a p β F P h k l = le_of_mul-le-mul_right {k = p} (omega (arith, mul-le-mul_left (2 ^ 20 * d) h, mul-le-mul_left (2 ^ 20 * β) k, mul-le-mul_left (15 * (F * d)) l)) P

-- ---- from below
square-ge : (n d s u : ℕ) → n * 2 ^ 34 ≤ s * d + d → s * s < u * 2 ^ 34 + 2 ^ 34 → s ≤ 2 ^ 29 → n * n * 2 ^ 34 ≤ (u + 2) * (d * d)
square-ge n d s u h k l =
    let t : s * s + 2 * s + 1 ≤ (u + 2) * 2 ^ 34 = omega arith in
    le_of_mul-le-mul_right {k = 2 ^ 34} (omega (arith, mul-le-mul h h, mul-le-mul_right (d * d) t)) (pow_pos 34)

fourth-ge : (N D u v : ℕ) → N * 2 ^ 34 ≤ (u + 2) * D → u * u < v * 2 ^ 34 + 2 ^ 34 → u ≤ 2 ^ 24 → N * N * 2 ^ 34 ≤ (v + 2) * (D * D)
fourth-ge N D u v h k l =
    let t : u * u + 4 * u + 4 ≤ (v + 2) * 2 ^ 34 = omega arith in
    le_of_mul-le-mul_right {k = 2 ^ 34} (omega (arith, mul-le-mul h h, mul-le-mul_right (D * D) t)) (pow_pos 34)

bracket-ge : (N D u v g : ℕ) → 5 * u + 3 * v ≤ 15 * g + 22 → N * 2 ^ 34 ≤ (u + 2) * D → N * N * 2 ^ 34 ≤ (v + 2) * (D * D) → 2 ^ 34 * bracket N D ≤ (15 * 2 ^ 34 + 15 * g + 38) * (D * D)
bracket-ge N D u v g a b c = omega (arith, mul-le-mul_right (D * D) a, mul-le-mul_right D b, c)

longer-ge : (q g w : ℕ) → q * 2 ^ 34 + q * g < w * 2 ^ 34 + 2 ^ 34 → g ≤ 2 ^ 34 → 2 ^ 38 ≤ q + 1 → q ≤ w → (q + 1) * (15 * 2 ^ 34 + 15 * g + 38) ≤ w * (15 * 2 ^ 34 + 42)
longer-ge q g w a b c d = omega arith

whole-ge : (n d q g w a p β F : ℕ) → 0 < p → 2 ^ 34 * β ≤ (15 * 2 ^ 34 + 15 * g + 38) * F → n * (2 ^ 37 * p) ≤ q * d + d → (q + 1) * (15 * 2 ^ 34 + 15 * g + 38) ≤ w * (15 * 2 ^ 34 + 42) → w * 2 ^ 20 ≤ a * p + p → 2 ^ 57 * (n * β) * 2 ^ 34 ≤ F * d * ((a + 1) * (15 * 2 ^ 34 + 42))
whole-ge n d q g w a p β F P h k l m =
    le_of_mul-le-mul_right {k = p} (first (15 * 2 ^ 34 + 15 * g + 38) (15 * 2 ^ 34 + 42) h l) P
  where
    first : (B C : ℕ) → 2 ^ 34 * β ≤ B * F → (q + 1) * B ≤ w * C → 2 ^ 57 * (n * β) * 2 ^ 34 * p ≤ F * d * ((a + 1) * C) * p
    first B C x y =
        let s : n * (2 ^ 37 * p) * (2 ^ 34 * β) ≤ (q * d + d) * (B * F) = mul-le-mul k x in
        let t : (q * d + d) * (B * F) ≤ d * F * (w * C) = omega (arith, mul-le-mul_left (d * F) y) in
        let r : d * F * C * (w * 2 ^ 20) ≤ d * F * C * (a * p + p) = mul-le-mul_left (d * F * C) m in
        omega (arith, mul-le-mul_right (2 ^ 20) (le_trans s t), r)

-- ---- the parts of `twice_of`
thirds : (u v : ℕ) → 15 * (u / 3 + v / 5) ≤ 5 * u + 3 * v
thirds u v = omega arith

thirds' : (u v : ℕ) → 5 * u + 3 * v ≤ 15 * (u / 3 + v / 5) + 22
thirds' u v = omega arith

abbrev pub give : ℕ → ℕ
give a = a / 2 ^ 26 + 3

module _ (n d : ℕ) (p : 0 < n) (h : n ≤ 2 ^ 19) (k : 2 ^ 24 ≤ d) (top : d < 2 ^ 25) where
  abbrev l : ℕ
  l = count_leading_zeros 64 n

  abbrev P : ℕ
  P = 2 ^ (l - 37)

  abbrev q : ℕ
  q = quotient n d

  abbrev s : ℕ
  s = q / 2 ^ (l - 34)

  abbrev u : ℕ
  u = s * s / 2 ^ 34

  abbrev v : ℕ
  v = u * u / 2 ^ 34

  abbrev g : ℕ
  g = u / 3 + v / 5

  abbrev w : ℕ
  w = lengthened q g

  abbrev a : ℕ
  a = w * 2 ^ 20 / P

  q-under : q * d ≤ n * (2 ^ 37 * P)
  q-under = le_trans (range.q-under n d p h k) (le_of_eq (ap (λ (x : ℕ). n * x) (range.split-37 n d p h k)))

  q-over : n * (2 ^ 37 * P) ≤ q * d + d
  q-over = le_trans (le_of_eq (sym (ap (λ (x : ℕ). n * x) (range.split-37 n d p h k)))) (le_of_lt (range.q-over n d p h k))

  s-over : n * 2 ^ 34 ≤ s * d + d
  s-over =
      le_of_mul-le-mul_right {k = 2 ^ (l - 34)}
      (le_trans (le_of_eq (mul_assoc n (2 ^ 34) (2 ^ (l - 34)) ∙ sym (ap (λ (x : ℕ). n * x) (range.split-34 n d p h k))))
      (le_trans (le_of_lt (range.q-over n d p h k)) (go q s (2 ^ (l - 34)) (lt-div-mul-add {a = q} {b = 2 ^ (l - 34)} (pow_pos (l - 34))))))
      (pow_pos (l - 34))
    where
      go : (q s o : ℕ) → q < s * o + o → q * d + d ≤ (s * d + d) * o
      go q s o x = omega (arith, mul-le-mul_right d x)

  s-le : s ≤ 2 ^ 29
  s-le = range.s-le n d p h k

  u-le : u ≤ 2 ^ 24
  u-le = go (s * s) (mul-le-mul s-le s-le)
    where
      go : (x : ℕ) → x ≤ 2 ^ 29 * 2 ^ 29 → x / 2 ^ 34 ≤ 2 ^ 24
      go x y = omega arith

  q-large : 2 ^ 38 ≤ q + 1
  q-large = le_of_mul-le-mul_right {k = 2 ^ 25} (le_trans (le_trans (lit≤ tt) (range.zeros n p h).full) (le_trans (le_of_lt (range.q-over n d p h k)) (le_trans (le_of_eq (one q d)) (mul-le-mul_left (q + 1) (le_of_lt top))))) (pow_pos 25)
    where
      one : (q d : ℕ) → q * d + d ≡ (q + 1) * d
      one q d = omega arith

  w-under : w * 2 ^ 34 ≤ q * 2 ^ 34 + q * g
  w-under = go (q * g)
    where
      go : (x : ℕ) → (q + x / 2 ^ 34) * 2 ^ 34 ≤ q * 2 ^ 34 + x
      go x = omega arith

  w-over : q * 2 ^ 34 + q * g < w * 2 ^ 34 + 2 ^ 34
  w-over = go (q * g)
    where
      go : (x : ℕ) → q * 2 ^ 34 + x < (q + x / 2 ^ 34) * 2 ^ 34 + 2 ^ 34
      go x = omega arith

  g-le : g ≤ 2 ^ 34
  g-le = le_trans (range.g-le n d p h k) (lit≤ tt)

  over-a : w * 2 ^ 20 ≤ a * P + P
  over-a = le_of_lt (lt-div-mul-add {a = w * 2 ^ 20} {b = P} (pow_pos (l - 37)))

  square₁ : u * (d * d) ≤ n * n * 2 ^ 34
  square₁ = square_le n d s u (range.s-under n d p h k) (div-mul-le_self (s * s) (2 ^ 34))

  square₂ : n * n * 2 ^ 34 ≤ (u + 2) * (d * d)
  square₂ = square-ge n d s u s-over (lt-div-mul-add {a = s * s} {b = 2 ^ 34} (pow_pos 34)) s-le

  fourth₁ : v * (d * d * (d * d)) ≤ n * n * (n * n) * 2 ^ 34
  fourth₁ = square_le (n * n) (d * d) u v square₁ (div-mul-le_self (u * u) (2 ^ 34))

  fourth₂ : n * n * (n * n) * 2 ^ 34 ≤ (v + 2) * (d * d * (d * d))
  fourth₂ = fourth-ge (n * n) (d * d) u v square₂ (lt-div-mul-add {a = u * u} {b = 2 ^ 34} (pow_pos 34)) u-le

  under : 15 * (d * d * (d * d) * d) * a ≤ 2 ^ 57 * three_terms n (d * d)
  under =
      le_trans
      (whole_le n d q w a P (bracket (n * n) (d * d)) (d * d * (d * d)) (pow_pos (l - 37))
      (longer-le (n * n) (d * d) q g w w-under (excess-le (n * n) (d * d) u v g (thirds u v) square₁ fourth₁)) q-under (div-mul-le_self (w * 2 ^ 20) P))
      (le_of_eq (ap (λ (x : ℕ). 2 ^ 57 * x) (sym (three_terms-is n (d * d)))))

  over : 2 ^ 57 * three_terms n (d * d) * 2 ^ 34 ≤ d * d * (d * d) * d * ((a + 1) * (15 * 2 ^ 34 + 42))
  over =
      le_trans (le_of_eq (ap (λ (x : ℕ). 2 ^ 57 * x * 2 ^ 34) (three_terms-is n (d * d))))
      (whole-ge n d q g w a P (bracket (n * n) (d * d)) (d * d * (d * d)) (pow_pos (l - 37))
      (bracket-ge (n * n) (d * d) u v g (thirds' u v) square₂ fourth₂) q-over (longer-ge q g w w-over g-le q-large (le-add_right q (q * g / 2 ^ 34))) over-a)

  pub twice-under : 15 * (d * d * (d * d) * d) * twice_of n d ≤ 2 ^ 57 * three_terms n (d * d)
  unfolding twice_of
  twice-under = under

  pub twice-over : 2 ^ 57 * three_terms n (d * d) * 2 ^ 34 ≤ d * d * (d * d) * d * ((twice_of n d + 1) * (15 * 2 ^ 34 + 42))
  unfolding twice_of
  twice-over = over

-- ---- with the give: F is d⁵, f the polynomial
lower_by : (a F f : ℕ) → 15 * F * a ≤ 2 ^ 57 * f → (a - give a) * (15 * F * 2 ^ 27) ≤ 2 * (2 ^ 27 - 1) * f * 2 ^ 56
lower_by a F f h =
    let t : (a - give a) * 2 ^ 27 ≤ a * (2 ^ 27 - 1) = omega arith in
    go (a - give a) t
  where
    go : (b : ℕ) → b * 2 ^ 27 ≤ a * (2 ^ 27 - 1) → b * (15 * F * 2 ^ 27) ≤ 2 * (2 ^ 27 - 1) * f * 2 ^ 56
    go b t = omega (arith, mul-le-mul_left (15 * F) t, h)

raised_by : (a F f : ℕ) → 2 ^ 57 * f * 2 ^ 34 ≤ F * ((a + 1) * (15 * 2 ^ 34 + 42)) → 2 * (2 ^ 27 + 1) * f * 2 ^ 56 ≤ (a + give a) * (15 * F * 2 ^ 27)
raised_by a F f h =
    let t : (2 ^ 27 + 1) * ((a + 1) * (15 * 2 ^ 34 + 42)) ≤ (a + give a) * (15 * 2 ^ 61) = enough a in
    le_of_mul-le-mul_right {k = 2 ^ 34} (go (a + give a) ((a + 1) * (15 * 2 ^ 34 + 42)) h t) (pow_pos 34)
  where
    enough : (a : ℕ) → (2 ^ 27 + 1) * ((a + 1) * (15 * 2 ^ 34 + 42)) ≤ (a + give a) * (15 * 2 ^ 61)
    enough a = omega arith

    go : (b c : ℕ) → 2 ^ 57 * f * 2 ^ 34 ≤ F * c → (2 ^ 27 + 1) * c ≤ b * (15 * 2 ^ 61) → 2 * (2 ^ 27 + 1) * f * 2 ^ 56 * 2 ^ 34 ≤ b * (15 * F * 2 ^ 27) * 2 ^ 34
    go b c x y = omega (arith, x, mul-le-mul_left F y)

-- ---- n / d written with 2 ^ 24 times as large numbers, Q for 2 ^ 24
module _ (n d z Q : ℕ) (e : d ≡ n + z) where
  apart : d * Q ≡ n * Q + z * Q
  apart = omega (arith, ap (λ (x : ℕ). x * Q) e)

  three_terms-scaled : three_terms (n * Q) (d * Q * (d * Q)) ≡ three_terms n (d * d) * (Q * Q * Q * Q * Q)
  three_terms-scaled = omega arith

  unit-scaled : 15 * (d * Q * (d * Q) * (d * Q * (d * Q)) * (d * Q)) * 2 ^ 27 ≡ 15 * (d * d * (d * d) * d) * 2 ^ 27 * (Q * Q * Q * Q * Q)
  unit-scaled = omega arith

  value-scaled : (d * Q + n * Q) * z ≡ (d + n) * (z * Q)
  value-scaled = omega arith

module _ (n d z : ℕ) (e : d ≡ n + z) (h : n ≤ 2 ^ 19) (k : 2 ^ 24 ≤ d) (top : d < 2 ^ 25) where
  abbrev D : ℕ
  D = d * 2 ^ 24

  abbrev N : ℕ
  N = n * 2 ^ 24

  abbrev Q5 : ℕ
  Q5 = 2 ^ 24 * 2 ^ 24 * 2 ^ 24 * 2 ^ 24 * 2 ^ 24

  big : 2 ^ 48 ≤ D
  big = omega arith

  z-pos : 0 < z * 2 ^ 24
  z-pos = omega arith

  u-pos : 0 < unit D big
  u-pos = lt_of_lt_of_le {m = 15 * (d * d * (d * d) * d) * 2 ^ 27 * Q5} (mul-pos {m = 15 * (d * d * (d * d) * d) * 2 ^ 27} (mul-pos {m = 15 * (d * d * (d * d) * d)} (mul-pos {m = 15} (lit< tt) (mul-pos (mul-pos (mul-pos d-pos d-pos) (mul-pos d-pos d-pos)) d-pos)) (lit< tt)) (lit< tt)) (le_of_eq (sym (unit-scaled n d z (2 ^ 24) e)))
    where
      d-pos : 0 < d
      d-pos = omega arith

  by_le : (b : ℕ) → b * (15 * (d * d * (d * d) * d) * 2 ^ 27) ≤ 2 * (2 ^ 27 - 1) * three_terms n (d * d) * 2 ^ 56 → ExpLe b (2 ^ 56) (d + n) z
  by_le b x =
      lower-le b (2 ^ 56) (lower D big N) (unit D big) (d + n) z (pow_pos 56) u-pos
      (go b (15 * (d * d * (d * d) * d) * 2 ^ 27) (three_terms n (d * d)) Q5 (unit D big) (three_terms N (D * D)) x (unit-scaled n d z (2 ^ 24) e) (three_terms-scaled n d z (2 ^ 24) e))
      (same-le (lower D big N) (unit D big) (D + N) (z * 2 ^ 24) (d + n) z z-pos (value-scaled n d z (2 ^ 24) e) (atanh-le D big N (z * 2 ^ 24) (apart n d z (2 ^ 24) e) (omega arith)))
    where
      go : (b U f T Y g : ℕ) → b * U ≤ 2 * (2 ^ 27 - 1) * f * 2 ^ 56 → Y ≡ U * T → g ≡ f * T → b * Y ≤ 2 * (2 ^ 27 - 1) * g * 2 ^ 56
      go b U f T Y g a c d = omega (arith, mul-le-mul_right T a, ap (λ (y : ℕ). b * y) c, d)

  by-ge : (b : ℕ) → 2 * (2 ^ 27 + 1) * three_terms n (d * d) * 2 ^ 56 ≤ b * (15 * (d * d * (d * d) * d) * 2 ^ 27) → ExpGe b (2 ^ 56) (d + n) z
  by-ge b x =
      upper-ge b (2 ^ 56) (upper D big N) (unit D big) (d + n) z (pow_pos 56) u-pos
      (go b (15 * (d * d * (d * d) * d) * 2 ^ 27) (three_terms n (d * d)) Q5 (unit D big) (three_terms N (D * D)) x (unit-scaled n d z (2 ^ 24) e) (three_terms-scaled n d z (2 ^ 24) e))
      (same-ge (upper D big N) (unit D big) (D + N) (z * 2 ^ 24) (d + n) z z-pos (value-scaled n d z (2 ^ 24) e) (atanh-ge D big N (z * 2 ^ 24) (apart n d z (2 ^ 24) e) (omega arith)))
    where
      go : (b U f T Y g : ℕ) → 2 * (2 ^ 27 + 1) * f * 2 ^ 56 ≤ b * U → Y ≡ U * T → g ≡ f * T → 2 * (2 ^ 27 + 1) * g * 2 ^ 56 ≤ b * Y
      go b U f T Y g a c d = omega (arith, mul-le-mul_right T a, ap (λ (y : ℕ). b * y) c, d)

  -- both, also at n = 0, where every term is 0
  pub twice-le : ExpLe (twice_of n d - give (twice_of n d)) (2 ^ 56) (d + n) z
  twice-le =
      by_le (twice_of n d - give (twice_of n d))
      (split 0 n
      (λ p. lower_by (twice_of n d) (d * d * (d * d) * d) (three_terms n (d * d)) (twice-under n d p h k top))
      (λ p. none (twice_of n d) (range.twice-zero d (omega arith)) (subst (λ (x : ℕ). twice_of n d ≡ twice_of x d) (omega arith) refl)))
    where
      none : (a : ℕ) → twice_of 0 d ≡ 0 → a ≡ twice_of 0 d → (a - give a) * (15 * (d * d * (d * d) * d) * 2 ^ 27) ≤ 2 * (2 ^ 27 - 1) * three_terms n (d * d) * 2 ^ 56
      none a x y = le_trans (le_of_eq (zero-at (a - give a) (15 * (d * d * (d * d) * d) * 2 ^ 27) (less a (y ∙ x)))) zero-le
        where
          less : (a : ℕ) → a ≡ 0 → a - give a ≡ 0
          less a e = omega arith

          zero-at : (b c : ℕ) → b ≡ 0 → b * c ≡ 0
          zero-at b c e = omega (arith, ap (λ (y : ℕ). y * c) e)

  pub twice-ge : ExpGe (twice_of n d + give (twice_of n d)) (2 ^ 56) (d + n) z
  twice-ge =
      by-ge (twice_of n d + give (twice_of n d))
      (split 0 n
      (λ p. raised_by (twice_of n d) (d * d * (d * d) * d) (three_terms n (d * d)) (twice-over n d p h k top))
      (λ p. le_trans (le_of_eq (zero-at (three_terms n (d * d)) (none (d * d) (omega arith)))) zero-le))
    where
      none : (D : ℕ) → n ≡ 0 → three_terms n D ≡ 0
      none D z = subst (λ (x : ℕ). three_terms x D ≡ 0) (sym z) (omega arith)

      zero-at : (f : ℕ) → f ≡ 0 → 2 * (2 ^ 27 + 1) * f * 2 ^ 56 ≡ 0
      zero-at f e = omega arith
