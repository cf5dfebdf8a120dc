-- Up to 2 the cosine falls: with y < z ≤ 2, the terms z ^ k - y ^ k over k! of the class 0 come to at most two thirds of those two places before of the class 2, since z ^ (k + 2) - y ^ (k + 2) is at most 8 * (z ^ k - y ^ k) from k = 2 on.
use mathlib.Core.Path.{◌≡◌, refl, ap}
use Prim.Native.Nat.{ℕ, zero, suc, ◌+◌, ◌*◌, ◌^◌, ◌≤◌, ◌<◌}
use native.Mathlib.Nat.{le_trans, le_of_eq, mul-pos, mul-le-mul, mul-le-mul_left, mul-le-mul_right, pow-suc, pow-zero, le-add_right, le-add_left, lt_of_lt_of_le}
use native.Mathlib.Omega.{arith}
use native.Mathlib.Numerals.{unary_clauses}
use Rattle.series.specs.Series.{num, class}
use Rattle.series.specs.Rises.{CosineFalls}
use Rattle.series.proofs.Terms.{square-le}

-- ---- steps of both proofs
pub half : (A P : ℕ) → P ≤ A → 2 * P ≤ A + P
half A P i = omega arith

pub turn : (h p' p y : ℕ) → p' ≡ p * y → h * p' ≡ y * (h * p)
turn h p' p y a = omega (arith, ap (λ (x : ℕ). h * x) a)

pub two-terms : (b f g u v : ℕ) → b * f * g ≤ (b * f + u) * g + v
two-terms b f g u v = omega arith

module _ (y h : ℕ) where
  -- (y + h) ^ k - y ^ k
  unfoldable pub gap : ℕ → ℕ
  gap zero = 0
  gap (suc k) = (y + h) * gap k + h * y ^ k

  pub gap_is : (k : ℕ) → y ^ k + gap k ≡ (y + h) ^ k
  unfolding gap
  gap_is zero = simp unary_clauses refl
  gap_is (suc k) = go (y ^ k) (y ^ suc k) (gap k) ((y + h) ^ k) ((y + h) ^ suc k) (pow-suc y k) (pow-suc (y + h) k) (gap_is k)
    where
      go : (p p' g q q' : ℕ) → p' ≡ p * y → q' ≡ q * (y + h) → p + g ≡ q → p' + ((y + h) * g + h * p) ≡ q'
      go p p' g q q' a b e = omega (arith, ap (λ (x : ℕ). x * (y + h)) e)

module _ (y h d : ℕ) where
  -- what a partial sum grows by from y to y + h
  unfoldable rise : (c : ℕ → ℕ) → ℕ → ℕ
  rise c zero = 0
  rise c (suc k) = rise c k * (d * suc k) + c (suc k) * gap y h (suc k)

  rise-is : (c : ℕ → ℕ) (k : ℕ) → num c y d k + rise c k ≡ num c (y + h) d k
  unfolding rise num
  rise-is c zero = omega arith
  rise-is c (suc k) = go (num c y d k) (rise c k) (num c (y + h) d k) (d * suc k) (c (suc k)) (y ^ suc k) (gap y h (suc k)) ((y + h) ^ suc k) (rise-is c k) (gap_is y h (suc k))
    where
      go : (a r b f t p g q : ℕ) → a + r ≡ b → p + g ≡ q → a * f + t * p + (r * f + t * g) ≡ b * f + t * q
      go a r b f t p g q e i = omega (arith, ap (λ (x : ℕ). x * f) e, ap (λ (x : ℕ). t * x) i)

  module _ (small : y + h ≤ 2 * d) where
    gap-two : (k : ℕ) → gap y h (suc (suc (suc (suc k)))) ≤ 8 * (d * d) * gap y h (suc (suc k))
    unfolding gap
    gap-two k = go (gap y h (suc k)) (y ^ k) (y ^ suc k) (y ^ suc (suc k)) (y ^ suc (suc (suc k))) (pow-suc y k) (pow-suc y (suc k)) (pow-suc y (suc (suc k))) (le-add_left (h * y ^ k) ((y + h) * gap y h k))
      where
        go : (g p₀ p p' p'' : ℕ) → p ≡ p₀ * y → p' ≡ p * y → p'' ≡ p' * y → h * p₀ ≤ g → (y + h) * ((y + h) * ((y + h) * g + h * p) + h * p') + h * p'' ≤ 8 * (d * d) * ((y + h) * g + h * p)
        go g p₀ p p' p'' o a b i =
            let G = (y + h) * g + h * p in
            let s : (y + h) * (y + h) * G ≤ 4 * (d * d) * G = mul-le-mul_right G (square-le (y + h) d small) in
            let t : h * p * (y * (y + h)) ≤ h * p * (4 * (d * d)) = mul-le-mul_left (h * p) (le_trans (mul-le-mul_right (y + h) (le-add_right y h)) (square-le (y + h) d small)) in
            let u : h * p * (y * y) ≤ h * p * (4 * (d * d)) = mul-le-mul_left (h * p) (le_trans (mul-le-mul (le-add_right y h) (le-add_right y h)) (square-le (y + h) d small)) in
            let l : h * p ≤ (y + h) * g = le_trans (le_of_eq (turn h p p₀ y o)) (le_trans (mul-le-mul_left y i) (mul-le-mul_right g (le-add_right y h))) in
            let v : 2 * (h * p) * (4 * (d * d)) ≤ G * (4 * (d * d)) = mul-le-mul_right (4 * (d * d)) (half ((y + h) * g) (h * p) l) in
            sum G ((y + h) * (y + h) * G) (h * p * (y * (y + h))) (h * p * (y * y)) (h * p) (d * d) s t u v (opened g p p' p'' a b)
          where
            sum : (G a b c e D : ℕ) {x : ℕ} → a ≤ 4 * D * G → b ≤ e * (4 * D) → c ≤ e * (4 * D) → 2 * e * (4 * D) ≤ G * (4 * D) → x ≡ a + b + c → x ≤ 8 * D * G
            sum G a b c e D s t u v i = omega (arith, s, t, u, v, i)

            opened : (g p p' p'' : ℕ) → p' ≡ p * y → p'' ≡ p' * y → (y + h) * ((y + h) * ((y + h) * g + h * p) + h * p') + h * p'' ≡ (y + h) * (y + h) * ((y + h) * g + h * p) + h * p * (y * (y + h)) + h * p * (y * y)
            opened g p p' p'' a b = omega (arith, ap (λ (x : ℕ). h * x * (y + h)) a, ap (λ (x : ℕ). h * x) b, ap (λ (x : ℕ). h * x * y) a)

    later : (k : ℕ) → 3 * rise (class 0) (suc (suc k)) ≤ 2 * (rise (class 2) k * (d * suc k) * (d * suc (suc k)))
    unfolding rise class
    later zero = omega arith
    later (suc k) = step k (rise (class 0) (suc (suc k))) (rise (class 2) k) (class 2 (suc k)) (gap y h (suc k)) (gap y h (suc (suc (suc k)))) (later k) (term k)
      where
        term : (k : ℕ) → 3 * (class 2 (suc k) * gap y h (suc (suc (suc k)))) ≤ 2 * (class 2 (suc k) * gap y h (suc k) * (d * suc (suc k)) * (d * suc (suc (suc k))))
        term zero = omega arith
        term (suc k) = le_trans (mul-le-mul_left 3 (mul-le-mul_left (class 2 (suc (suc k))) (gap-two k))) (go k (class 2 (suc (suc k))) (gap y h (suc (suc k))))
          where
            go : (k t g : ℕ) → 3 * (t * (8 * (d * d) * g)) ≤ 2 * (t * g * (d * suc (suc (suc k))) * (d * suc (suc (suc (suc k)))))
            go k t g = omega arith

        step : (k a b t g g' : ℕ) → 3 * a ≤ 2 * (b * (d * suc k) * (d * suc (suc k))) → 3 * (t * g') ≤ 2 * (t * g * (d * suc (suc k)) * (d * suc (suc (suc k))))
            → 3 * (a * (d * suc (suc (suc k))) + t * g') ≤ 2 * ((b * (d * suc k) + t * g) * (d * suc (suc k)) * (d * suc (suc (suc k))))
        step k a b t g g' i j = omega (arith, mul-le-mul_right (d * suc (suc (suc k))) i, j)

    grow : (k : ℕ) → rise (class 2) k * (d * suc k) * (d * suc (suc k)) ≤ rise (class 2) (suc (suc k))
    unfolding rise
    grow k = two-terms (rise (class 2) k) (d * suc k) (d * suc (suc k)) (class 2 (suc k) * gap y h (suc k)) (class 2 (suc (suc k)) * gap y h (suc (suc k)))

    module _ (D : 0 < d) (H : 0 < h) where
      second : 0 < gap y h 2
      unfolding gap
      second = go (y ^ 0) (h * y ^ 1) (pow-zero y)
        where
          go : (p w : ℕ) → p ≡ 1 → 0 < (y + h) * ((y + h) * 0 + h * p) + w
          go p w e = omega (arith, mul-pos H H, ap (λ (x : ℕ). (y + h) * (h * x)) e)

      some : (k : ℕ) → 0 < rise (class 2) (suc (suc k))
      unfolding rise class
      some zero = go (rise (class 2) 1 * (d * 2)) (gap y h 2) second
        where
          go : (a b : ℕ) → 0 < b → 0 < a + 1 * b
          go a b p = omega arith
      some (suc k) = lt_of_lt_of_le (mul-pos (some k) (mul-pos D (omega arith))) (le-add_right (rise (class 2) (suc (suc k)) * (d * suc (suc (suc k)))) (class 2 (suc (suc (suc k))) * gap y h (suc (suc (suc k)))))

      fewer : (k : ℕ) → rise (class 0) (suc (suc k)) < rise (class 2) (suc (suc k))
      fewer k = go (rise (class 0) (suc (suc k))) (rise (class 2) k * (d * suc k) * (d * suc (suc k))) (rise (class 2) (suc (suc k))) (later k) (grow k) (some k)
        where
          go : (a m b : ℕ) → 3 * a ≤ 2 * m → m ≤ b → 0 < b → a < b
          go a m b i j p = omega arith

pub cosine-falls : CosineFalls
cosine-falls y h d k D H small = go _ _ _ _ _ _ (rise-is y h d (class 0) (suc (suc k))) (rise-is y h d (class 2) (suc (suc k))) (fewer y h d small D H k)
  where
    go : (a r a' b s b' : ℕ) → a + r ≡ a' → b + s ≡ b' → r < s → a' + b < a + b'
    go a r a' b s b' e f l = omega arith
