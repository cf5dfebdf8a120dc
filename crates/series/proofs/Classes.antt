-- A partial sum by classes is one by pairs of terms, as a fraction: of the sine those up to number 4 j, 4 j + 1, 4 j + 2 and 4 j + 3 are j pairs, the same with the next term, the same, and j + 1 pairs; of the cosine j pairs with the next term, the same, j + 1 pairs, and the same.
-- So what is said of all pairs from some on is said of all partial sums from some on.
use mathlib.Core.Path.{◌≡◌, sym, ap, subst}
use Prim.Native.Nat.{ℕ, suc, ◌+◌, ◌*◌, ◌/◌, ◌%◌, ◌^◌, ◌≤◌, ◌<◌}
use native.Mathlib.Nat.{le_trans, le_of_eq, mul-pos, mul-le-mul_right, le_of_mul-le-mul_right, eq_of_mul-eq-mul_right}
use native.Mathlib.Omega.{arith}
use Rattle.cases.proofs.Cases.{split}
use Rattle.series.specs.Series.{Close, full, num, class}
use Rattle.series.proofs.Pairs.{sums, Limit, Ksin, Kcos}
use Rattle.series.proofs.Quads.{quad, quad_is, class-at, sin-same, cos-same}

-- ---- (P - Q) / D and (p - q) / f are one fraction, part by part
pub record Alike (P Q D p q f : ℕ) : Type 0 where
  pub plus : P * f ≡ p * D
  pub minus : Q * f ≡ q * D

pub close-alike : (P Q D p q f m r t u : ℕ) → 0 < D → Alike P Q D p q f → Close m r t u P Q D → Close m r t u p q f
close-alike P Q D p q f m r t u D⁺ a c =
    record {
      low = le_of_mul-le-mul_right {k = D} (low c.low) D⁺;
      high = le_of_mul-le-mul_right {k = D} (high c.high) D⁺;
    }
  where
    low : r * D + m * Q ≤ m * P + (t + u) * D → (r * f + m * q) * D ≤ (m * p + (t + u) * f) * D
    low h = omega (arith, mul-le-mul_right f h, ap (λ (x : ℕ). m * x) a.plus, ap (λ (x : ℕ). m * x) a.minus)

    high : m * P + t * D ≤ m * Q + (r + u) * D → (m * p + t * f) * D ≤ (m * q + (r + u) * f) * D
    high h = omega (arith, mul-le-mul_right f h, ap (λ (x : ℕ). m * x) a.plus, ap (λ (x : ℕ). m * x) a.minus)

-- one is at most the other
pub below_alike : (P Q D p q f P' Q' D' p' q' f' : ℕ) → 0 < D → 0 < D' → Alike P Q D p q f → Alike P' Q' D' p' q' f'
    → P * D' + D * Q' ≤ D * P' + Q * D' → p * f' + q' * f ≤ p' * f + q * f'
below_alike P Q D p q f P' Q' D' p' q' f' D⁺ D'⁺ a a' h =
    le_of_mul-le-mul_right {k = D * D'}
    (le_trans (le_of_eq (left (p * D) (P * f) (q' * D') (Q' * f') (sym a.plus) (sym a'.minus)))
    (le_trans (mul-le-mul_right (f * f') h) (le_of_eq (right (P' * f') (p' * D') (Q * f) (q * D) a'.plus a.minus))))
    (mul-pos D⁺ D'⁺)
  where
    left : (x y z w : ℕ) → p * D ≡ P * f → q' * D' ≡ Q' * f' → (p * f' + q' * f) * (D * D') ≡ (P * D' + D * Q') * (f * f')
    left x y z w e i = omega (arith, ap (λ (v : ℕ). v * (f' * D')) e, ap (λ (v : ℕ). v * (f * D)) i)

    right : (x y z w : ℕ) → P' * f' ≡ p' * D' → Q * f ≡ q * D → (D * P' + Q * D') * (f * f') ≡ (p' * f + q * f') * (D * D')
    right x y z w e i = omega (arith, ap (λ (v : ℕ). v * (f * D)) e, ap (λ (v : ℕ). v * (f' * D')) i)

-- the next number, where neither class has a term there
scaled : (P Q D p q f e c c' y : ℕ) → c ≡ 0 → c' ≡ 0 → Alike P Q D p q f → Alike P Q D (p * e + c * y) (q * e + c' * y) (f * e)
scaled P Q D p q f e c c' y z z' a =
    record {
      plus = omega (arith, ap (λ (x : ℕ). x * e) a.plus, ap (λ (x : ℕ). x * y * D) z);
      minus = omega (arith, ap (λ (x : ℕ). x * e) a.minus, ap (λ (x : ℕ). x * y * D) z');
    }

-- and the one before
unscaled : (P Q D p q f e c c' y : ℕ) → 0 < e → c ≡ 0 → c' ≡ 0 → Alike P Q D (p * e + c * y) (q * e + c' * y) (f * e) → Alike P Q D p q f
unscaled P Q D p q f e c c' y E z z' a =
    record {
      plus = eq_of_mul-eq-mul_right e E (P * f) (p * D) (omega (arith, a.plus, ap (λ (x : ℕ). x * y * D) z));
      minus = eq_of_mul-eq-mul_right e E (Q * f) (q * D) (omega (arith, a.minus, ap (λ (x : ℕ). x * y * D) z'));
    }

-- ---- the sine
module _ (n d : ℕ) (D : 0 < d) where
  step-pos : (k : ℕ) → 0 < d * suc k
  step-pos k = mul-pos D (omega arith)

  abbrev SinAlike : ℕ → ℕ → Type 0
  SinAlike j k = Alike (sums Ksin n d n d j).plus (sums Ksin n d n d j).minus (sums Ksin n d n d j).den (num (class 1) n d k) (num (class 3) n d k) (full d k)

  abbrev SinAlikeNext : ℕ → ℕ → Type 0
  SinAlikeNext j k = Alike ((sums Ksin n d n d j).plus + (sums Ksin n d n d j).next) (sums Ksin n d n d j).minus (sums Ksin n d n d j).den (num (class 1) n d k) (num (class 3) n d k) (full d k)

  pub sin-0 : (j : ℕ) → SinAlike j (quad j)
  sin-0 j = let s = sin-same n d j in record { plus = s.plus; minus = s.minus }

  pub sin-1 : (j : ℕ) → SinAlikeNext j (suc (quad j))
  unfolding num full class
  sin-1 j =
      let s = sin-same n d j in
      let c = class-at j in
      let k = quad j in
      let t = sums Ksin n d n d j in
      record {
        plus = first t.plus t.next t.den (num (class 1) n d k) (full d k) (d * suc k) (n ^ suc k) (class 0 k) c.0 s.plus s.next;
        minus = second t.minus t.den (num (class 3) n d k) (full d k) (d * suc k) (n ^ suc k) (class 2 k) c.2 s.minus;
      }
    where
      first : (P A D N F e y c : ℕ) → c ≡ 1 → P * F ≡ N * D → A * (F * e) ≡ y * D → (P + A) * (F * e) ≡ (N * e + c * y) * D
      first P A D N F e y c z p a = omega (arith, ap (λ (x : ℕ). x * e) p, a, ap (λ (x : ℕ). x * y * D) z)

      second : (Q D N F e y c : ℕ) → c ≡ 0 → Q * F ≡ N * D → Q * (F * e) ≡ (N * e + c * y) * D
      second Q D N F e y c z q = omega (arith, ap (λ (x : ℕ). x * e) q, ap (λ (x : ℕ). x * y * D) z)

  pub sin-2 : (j : ℕ) → SinAlikeNext j (suc (suc (quad j)))
  unfolding num full class
  sin-2 j =
      let c = class-at j in
      let k = quad j in
      let t = sums Ksin n d n d j in
      scaled (t.plus + t.next) t.minus t.den (num (class 1) n d (suc k)) (num (class 3) n d (suc k)) (full d (suc k)) (d * suc (suc k)) (class 3 k) (class 1 k) (n ^ suc (suc k)) c.3 c.1 (sin-1 j)

  pub sin-3 : (j : ℕ) → SinAlike (suc j) (suc (suc (suc (quad j))))
  unfolding num full class quad
  sin-3 j =
      let c = class-at j in
      let k = quad j in
      let t = sums Ksin n d n d (suc j) in
      unscaled t.plus t.minus t.den (num (class 1) n d (suc (suc (suc k)))) (num (class 3) n d (suc (suc (suc k)))) (full d (suc (suc (suc k)))) (d * suc (suc (suc (suc k)))) (class 1 k) (class 3 k) (n ^ suc (suc (suc (suc k)))) (step-pos (suc (suc (suc k)))) c.1 c.3 (sin-0 (suc j))

  -- ---- the cosine
  abbrev CosAlike : ℕ → ℕ → Type 0
  CosAlike j k = Alike (sums Kcos n d 1 1 j).plus (sums Kcos n d 1 1 j).minus (sums Kcos n d 1 1 j).den (num (class 0) n d k) (num (class 2) n d k) (full d k)

  abbrev CosAlikeNext : ℕ → ℕ → Type 0
  CosAlikeNext j k = Alike ((sums Kcos n d 1 1 j).plus + (sums Kcos n d 1 1 j).next) (sums Kcos n d 1 1 j).minus (sums Kcos n d 1 1 j).den (num (class 0) n d k) (num (class 2) n d k) (full d k)

  pub cos-0 : (j : ℕ) → CosAlikeNext j (quad j)
  cos-0 j = let s = cos-same n d j in record { plus = s.plus; minus = s.minus }

  pub cos-1 : (j : ℕ) → CosAlikeNext j (suc (quad j))
  unfolding num full class
  cos-1 j =
      let c = class-at j in
      let k = quad j in
      let t = sums Kcos n d 1 1 j in
      scaled (t.plus + t.next) t.minus t.den (num (class 0) n d k) (num (class 2) n d k) (full d k) (d * suc k) (class 3 k) (class 1 k) (n ^ suc k) c.3 c.1 (cos-0 j)

  pub cos-3 : (j : ℕ) → CosAlike (suc j) (suc (suc (suc (quad j))))
  unfolding num full class quad
  cos-3 j =
      let c = class-at j in
      let k = quad j in
      let s = cos-same n d (suc j) in
      let t = sums Kcos n d 1 1 (suc j) in
      record {
        plus = eq_of_mul-eq-mul_right (d * suc (suc (suc (suc k)))) (step-pos (suc (suc (suc k)))) (t.plus * full d (suc (suc (suc k)))) (num (class 0) n d (suc (suc (suc k))) * t.den)
            (first t.plus t.next t.den (num (class 0) n d (suc (suc (suc k)))) (full d (suc (suc (suc k)))) (d * suc (suc (suc (suc k)))) (n ^ suc (suc (suc (suc k)))) (class 0 k) c.0 s.plus s.next);
        minus = eq_of_mul-eq-mul_right (d * suc (suc (suc (suc k)))) (step-pos (suc (suc (suc k)))) (t.minus * full d (suc (suc (suc k)))) (num (class 2) n d (suc (suc (suc k))) * t.den)
            (second t.minus t.den (num (class 2) n d (suc (suc (suc k)))) (full d (suc (suc (suc k)))) (d * suc (suc (suc (suc k)))) (n ^ suc (suc (suc (suc k)))) (class 2 k) c.2 s.minus);
      }
    where
      first : (P A D N F e y c : ℕ) → c ≡ 1 → (P + A) * (F * e) ≡ (N * e + c * y) * D → A * (F * e) ≡ y * D → P * F * e ≡ N * D * e
      first P A D N F e y c z p a = omega (arith, p, a, ap (λ (x : ℕ). x * y * D) z)

      second : (Q D N F e y c : ℕ) → c ≡ 0 → Q * (F * e) ≡ (N * e + c * y) * D → Q * F * e ≡ N * D * e
      second Q D N F e y c z q = omega (arith, q, ap (λ (x : ℕ). x * y * D) z)

  pub cos-2 : (j : ℕ) → CosAlike (suc j) (suc (suc (quad j)))
  unfolding num full class
  cos-2 j =
      let c = class-at j in
      let k = quad j in
      let t = sums Kcos n d 1 1 (suc j) in
      unscaled t.plus t.minus t.den (num (class 0) n d (suc (suc k))) (num (class 2) n d (suc (suc k))) (full d (suc (suc k))) (d * suc (suc (suc k))) (class 1 k) (class 3 k) (n ^ suc (suc (suc k))) (step-pos (suc (suc k))) c.1 c.3 (cos-3 j)

-- ---- every number from 4 i on is one of the four of some j from i on
pub by-quads : (P : ℕ → Type 0) (i : ℕ) → ((j : ℕ) → i ≤ j → P (quad j) × P (suc (quad j)) × P (suc (suc (quad j))) × P (suc (suc (suc (quad j))))) → (k : ℕ) → 4 * i ≤ k → P k
by-quads P i f k h =
    let j = k / 4 in
    let all = f j (omega arith) in
    let q = quad_is j in
    split (k % 4) 1 (λ a. subst P (at-0 k (quad j) q a) all.0) (λ a.
    split (k % 4) 2 (λ b. subst P (at_1 k (quad j) q a b) all.1) (λ b.
    split (k % 4) 3 (λ c. subst P (at-2 k (quad j) q b c) all.2) (λ c. subst P (at-3 k (quad j) q c) all.3)))
  where
    at-0 : (k q : ℕ) → q ≡ 4 * (k / 4) → k % 4 < 1 → q ≡ k
    at-0 k q e a = omega arith

    at_1 : (k q : ℕ) → q ≡ 4 * (k / 4) → 1 ≤ k % 4 → k % 4 < 2 → suc q ≡ k
    at_1 k q e a b = omega arith

    at-2 : (k q : ℕ) → q ≡ 4 * (k / 4) → 2 ≤ k % 4 → k % 4 < 3 → suc (suc q) ≡ k
    at-2 k q e a b = omega arith

    at-3 : (k q : ℕ) → q ≡ 4 * (k / 4) → 3 ≤ k % 4 → suc (suc (suc q)) ≡ k
    at-3 k q e a = omega arith

-- ---- nearness
module _ (n d m r t u i : ℕ) (D : 0 < d) where
  pub sin-later : ((j : ℕ) → 0 < (sums Ksin n d n d j).den) → Limit Ksin n d n d i m r t u → (k : ℕ) → 4 * i ≤ k → Close m r t u (num (class 1) n d k) (num (class 3) n d k) (full d k)
  sin-later pos L = by-quads (λ k. Close m r t u (num (class 1) n d k) (num (class 3) n d k) (full d k)) i (λ j h. (
    close-alike _ _ _ _ _ _ m r t u (pos j) (sin-0 n d D j) (L.even j h),
    close-alike _ _ _ _ _ _ m r t u (pos j) (sin-1 n d D j) (L.odd j h),
    close-alike _ _ _ _ _ _ m r t u (pos j) (sin-2 n d D j) (L.odd j h),
    close-alike _ _ _ _ _ _ m r t u (pos (suc j)) (sin-3 n d D j) (L.even (suc j) (omega arith)),
  ))

  pub cos-later : ((j : ℕ) → 0 < (sums Kcos n d 1 1 j).den) → Limit Kcos n d 1 1 i m r t u → (k : ℕ) → 4 * i ≤ k → Close m r t u (num (class 0) n d k) (num (class 2) n d k) (full d k)
  cos-later pos L = by-quads (λ k. Close m r t u (num (class 0) n d k) (num (class 2) n d k) (full d k)) i (λ j h. (
    close-alike _ _ _ _ _ _ m r t u (pos j) (cos-0 n d D j) (L.odd j h),
    close-alike _ _ _ _ _ _ m r t u (pos j) (cos-1 n d D j) (L.odd j h),
    close-alike _ _ _ _ _ _ m r t u (pos (suc j)) (cos-2 n d D j) (L.even (suc j) (omega arith)),
    close-alike _ _ _ _ _ _ m r t u (pos (suc j)) (cos-3 n d D j) (L.even (suc j) (omega arith)),
  ))
