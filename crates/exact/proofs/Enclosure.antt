-- The enclosures of sine and cosine up to 4 are nested, since from the third term on the terms fall, and narrow, since all terms of the exponential series fall below every fraction (`small` of `series`).
-- Nested is proved by pairs of terms and carried to the partial sums by classes (`Classes` of `series`).
use mathlib.Core.Path.{◌≡◌, sym, subst}
use Prim.Native.Nat.{ℕ, zero, suc, ◌+◌, ◌*◌, ◌^◌, ◌≤◌, ◌<◌}
use native.Mathlib.Nat.{le_trans, le_of_eq, le_dest, add-zero, add-suc, mul-pos, mul-le-mul, mul-le-mul_left}
use native.Mathlib.Omega.{arith}
use lib.Dec.{lit<, lit≤}
use Rattle.series.specs.Series.{Close}
use Rattle.series.proofs.Pairs.{Sums, sums, Ksin, Kcos, den_pos, sin-pos, cos-pos}
use Rattle.series.proofs.Quads.{quad, quad_is}
use Rattle.series.proofs.Classes.{Alike, below_alike, by-quads, sin-0, sin-1, sin-2, sin-3, cos-0, cos-1, cos-2, cos-3}
use Rattle.series.proofs.Falling.{small}
use Rattle.series.proofs.Alternating.{Low, High, stay-low, stay-high}
use Rattle.exact.specs.Enclosure.{SumNotAbove, Nested, Less, OneWave}

-- ---- by pairs of terms

-- (plus - minus) / den of s is at most that of s'; and with the next term added to both, s' is at most s
abbrev Below : Sums → Sums → Type 0
Below s s' = s.plus * s'.den + s.den * s'.minus ≤ s.den * s'.plus + s.minus * s'.den

abbrev Above : Sums → Sums → Type 0
Above s s' = s.den * (s'.plus + s'.next) + s.minus * s'.den ≤ s.den * s'.minus + (s.plus + s.next) * s'.den

-- all partial sums after the one of 2 j terms lie between the two fractions at j; the one with an odd number of terms is never the smaller of its pair, since `next` is not negative
abbrev pub NestedPairs : (K : ℕ → ℕ) (n d a b j : ℕ) → Type 0
NestedPairs K n d a b j = (i : ℕ) → j ≤ i → Below (sums K n d a b j) (sums K n d a b i) × Above (sums K n d a b j) (sums K n d a b i)

module _ (K : ℕ → ℕ) (n d a b : ℕ) (D : 0 < d) (small : n ≤ 4 * d) (big : (k : ℕ) → 2 ≤ k → 30 ≤ K k) where
  square : n * n ≤ 16 * (d * d)
  square = omega (arith, mul-le-mul small small)

  falls : (k : ℕ) → 2 ≤ k → n * n ≤ d * d * K k
  falls k h = le_trans square (le_trans (le_of_eq (swap (d * d))) (mul-le-mul_left (d * d) (le_trans (lit≤ tt) (big k h))))
    where
      swap : (x : ℕ) → 16 * x ≡ x * 16
      swap x = omega arith

  module _ (j : ℕ) (from : 1 ≤ j) where
    abbrev s₀ : Sums
    s₀ = sums K n d a b j

    lower : (o : ℕ) → Low K n d s₀.den s₀.plus s₀.minus 0 (sums K n d a b (j + o))
    unfolding sums
    lower zero = subst (λ (x : ℕ). Low K n d s₀.den s₀.plus s₀.minus 0 (sums K n d a b x)) (sym (add-zero j)) (start s₀.den s₀.plus s₀.minus)
      where
        start : (c p q : ℕ) → p * c + c * q ≤ c * p + (q + 0) * c
        start c p q = omega arith
    lower (suc o) = subst (λ (x : ℕ). Low K n d s₀.den s₀.plus s₀.minus 0 (sums K n d a b x)) (sym (add-suc j o)) (stay-low K n d s₀.den s₀.plus s₀.minus 0 (j + o) (sums K n d a b (j + o)) (falls (2 * (j + o)) (omega arith)) (lower o))

    upper : (o : ℕ) → High K n d s₀.den (s₀.plus + s₀.next) s₀.minus 0 (sums K n d a b (j + o))
    unfolding sums
    upper zero = subst (λ (x : ℕ). High K n d s₀.den (s₀.plus + s₀.next) s₀.minus 0 (sums K n d a b x)) (sym (add-zero j)) (start s₀.den (s₀.plus + s₀.next) s₀.minus)
      where
        start : (c p q : ℕ) → c * p + q * c ≤ c * q + (p + 0) * c
        start c p q = omega arith
    upper (suc o) = subst (λ (x : ℕ). High K n d s₀.den (s₀.plus + s₀.next) s₀.minus 0 (sums K n d a b x)) (sym (add-suc j o)) (stay-high K n d s₀.den (s₀.plus + s₀.next) s₀.minus 0 (j + o) (sums K n d a b (j + o)) (falls (2 * (j + o) + 1) (omega arith)) (upper o))

    nested : NestedPairs K n d a b j
    nested i h =
        let o = le_dest h in
        subst (λ (x : ℕ). Below s₀ (sums K n d a b x) × Above s₀ (sums K n d a b x)) o.1
        (plain s₀.den s₀.plus s₀.minus (sums K n d a b (j + o.0)).den (sums K n d a b (j + o.0)).plus (sums K n d a b (j + o.0)).minus (lower o.0), plain' s₀.den (s₀.plus + s₀.next) s₀.minus (sums K n d a b (j + o.0)).den ((sums K n d a b (j + o.0)).plus + (sums K n d a b (j + o.0)).next) (sums K n d a b (j + o.0)).minus (upper o.0))
      where
        plain : (c p q c' p' q' : ℕ) → p * c' + c * q' ≤ c * p' + (q + 0) * c' → p * c' + c * q' ≤ c * p' + q * c'
        plain c p q c' p' q' h = omega (arith, h)

        plain' : (c p q c' p' q' : ℕ) → c * p' + q * c' ≤ c * q' + (p + 0) * c' → c * p' + q * c' ≤ c * q' + p * c'
        plain' c p q c' p' q' h = omega (arith, h)

-- ---- sine and cosine at n / d up to 4
sin-big : (k : ℕ) → 2 ≤ k → 30 ≤ Ksin k
sin-big k h = le_trans (lit≤ tt) (mul-le-mul (six k h) (seven k h))
  where
    six : (k : ℕ) → 2 ≤ k → 6 ≤ 2 * k + 2
    six k h = omega arith

    seven : (k : ℕ) → 2 ≤ k → 7 ≤ 2 * k + 3
    seven k h = omega arith

cos-big : (k : ℕ) → 2 ≤ k → 30 ≤ Kcos k
cos-big k h = mul-le-mul (five k h) (six k h)
  where
    five : (k : ℕ) → 2 ≤ k → 5 ≤ 2 * k + 1
    five k h = omega arith

    six : (k : ℕ) → 2 ≤ k → 6 ≤ 2 * k + 2
    six k h = omega arith

pub sine-pairs : (n d j : ℕ) → 0 < d → n ≤ 4 * d → 1 ≤ j → NestedPairs Ksin n d n d j
sine-pairs n d j D h l = nested Ksin n d n d D h sin-big j l

pub cosine-pairs : (n d j : ℕ) → 0 < d → n ≤ 4 * d → 1 ≤ j → NestedPairs Kcos n d 1 1 j
cosine-pairs n d j D h l = nested Kcos n d 1 1 D h cos-big j l

-- ---- by classes: a later partial sum is one of the pairs i, with the next term (`high`) or without (`low`)
module _ (K : ℕ → ℕ) (n d a b j : ℕ) (pos : (i : ℕ) → 0 < (sums K n d a b i).den) (N : NestedPairs K n d a b j) (p q f p' q' f' : ℕ)
    (lower : Alike (sums K n d a b j).plus (sums K n d a b j).minus (sums K n d a b j).den p q f)
    (upper : Alike ((sums K n d a b j).plus + (sums K n d a b j).next) (sums K n d a b j).minus (sums K n d a b j).den p' q' f') where
  abbrev Inside : (x y g : ℕ) → Type 0
  Inside x y g = (p * g + y * f ≤ x * f + q * g) × (x * f' + q' * g ≤ p' * g + y * f')

  low-inside : (i x y g : ℕ) → j ≤ i → Alike (sums K n d a b i).plus (sums K n d a b i).minus (sums K n d a b i).den x y g → Inside x y g
  low-inside i x y g h e =
      let s = sums K n d a b j in
      let t = sums K n d a b i in (
        below_alike s.plus s.minus s.den p q f t.plus t.minus t.den x y g (pos j) (pos i) lower e (N i h).0,
        below_alike t.plus t.minus t.den x y g (s.plus + s.next) s.minus s.den p' q' f' (pos i) (pos j) e upper (less s.den t.den (s.plus + s.next) s.minus t.plus t.next t.minus (N i h).1),
      )
    where
      less : (D D' P Q P' A' Q' : ℕ) → D * (P' + A') + Q * D' ≤ D * Q' + P * D' → P' * D + D' * Q ≤ D' * P + Q' * D
      less D D' P Q P' A' Q' h = omega (arith, h)

  high-inside : (i x y g : ℕ) → j ≤ i → Alike ((sums K n d a b i).plus + (sums K n d a b i).next) (sums K n d a b i).minus (sums K n d a b i).den x y g → Inside x y g
  high-inside i x y g h e =
      let s = sums K n d a b j in
      let t = sums K n d a b i in (
        below_alike s.plus s.minus s.den p q f (t.plus + t.next) t.minus t.den x y g (pos j) (pos i) lower e (more s.den t.den s.plus s.minus t.plus t.next t.minus (N i h).0),
        below_alike (t.plus + t.next) t.minus t.den x y g (s.plus + s.next) s.minus s.den p' q' f' (pos i) (pos j) e upper (turned s.den t.den (s.plus + s.next) s.minus (t.plus + t.next) t.minus (N i h).1),
      )
    where
      more : (D D' P Q P' A' Q' : ℕ) → P * D' + D * Q' ≤ D * P' + Q * D' → P * D' + D * Q' ≤ D * (P' + A') + Q * D'
      more D D' P Q P' A' Q' h = omega (arith, h)

      turned : (D D' P Q P' Q' : ℕ) → D * P' + Q * D' ≤ D * Q' + P * D' → P' * D + D' * Q ≤ D' * P + Q' * D
      turned D D' P Q P' Q' h = omega (arith, h)

module _ (n d : ℕ) (D : 0 < d) (h : n ≤ 4 * d) where
  sine-at : (j : ℕ) → 1 ≤ j → Nested 1 3 n d (quad j)
  sine-at j l k m =
      by-quads (λ k. SumNotAbove 1 3 n d (quad j) k × SumNotAbove 1 3 n d k (suc (quad j))) j (λ i o.
      let at_low = low-inside Ksin n d n d j pos N _ _ _ _ _ _ (sin-0 n d D j) (sin-1 n d D j) in
      let at_high = high-inside Ksin n d n d j pos N _ _ _ _ _ _ (sin-0 n d D j) (sin-1 n d D j) in (
        at_low i _ _ _ o (sin-0 n d D i),
        at_high i _ _ _ o (sin-1 n d D i),
        at_high i _ _ _ o (sin-2 n d D i),
        at_low (suc i) _ _ _ (omega arith) (sin-3 n d D i),
      )) k (omega (arith, quad_is j, m))
    where
      pos : (i : ℕ) → 0 < (sums Ksin n d n d i).den
      pos i = den_pos Ksin sin-pos n d n d D D i

      N : NestedPairs Ksin n d n d j
      N = sine-pairs n d j D h l

  cosine-at : (j : ℕ) → Nested 0 2 n d (suc (suc (suc (quad j))))
  unfolding quad
  cosine-at j k m =
      by-quads (λ k. SumNotAbove 0 2 n d (suc (suc (suc (quad j)))) k × SumNotAbove 0 2 n d k (quad (suc j))) (suc j) (λ i o.
      let at_low = low-inside Kcos n d 1 1 (suc j) pos N _ _ _ _ _ _ (cos-3 n d D j) (cos-0 n d D (suc j)) in
      let at_high = high-inside Kcos n d 1 1 (suc j) pos N _ _ _ _ _ _ (cos-3 n d D j) (cos-0 n d D (suc j)) in (
        at_high i _ _ _ o (cos-0 n d D i),
        at_high i _ _ _ o (cos-1 n d D i),
        at_low (suc i) _ _ _ (omega arith) (cos-2 n d D i),
        at_low (suc i) _ _ _ (omega arith) (cos-3 n d D i),
      )) k (omega (arith, quad_is j, m))
    where
      pos : (i : ℕ) → 0 < (sums Kcos n d 1 1 i).den
      pos i = den_pos Kcos cos-pos n d 1 1 D (lit< tt) i

      N : NestedPairs Kcos n d 1 1 (suc j)
      N = cosine-pairs n d (suc j) D h (omega arith)

three : (q j : ℕ) → q ≡ 4 * j → suc (suc (suc q)) ≡ 4 * j + 3
three q j e = omega arith

pub one-wave : OneWave
one-wave =
    record {
      sine-nested = λ n d i D h l. subst (λ (j : ℕ). Nested 1 3 n d j) (quad_is i) (sine-at n d D h i l);
      cosine-nested = λ n d i D h. subst (λ (j : ℕ). Nested 0 2 n d j) (three (quad i) i (quad_is i)) (cosine-at n d D h i);
      narrow = λ n d N D. (2 * n + N * n ^ (2 * n), λ k h. (small n d N D k h).1);
    }

-- at most 15/16 of a unit is less than one
pub less : (m r t u p q c : ℕ) → 0 < u → 0 < c → Close m r t (15 * u) p q c → Less m r t (16 * u) p q c
less m r t u p q c U C k = record { low = omega (arith, k.low, mul-pos U C); high = omega (arith, k.high, mul-pos U C) }
