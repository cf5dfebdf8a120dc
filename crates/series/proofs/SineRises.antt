-- Up to 2 the sine rises by more than the way times the cosine at its end. With z = y + h, what a term z ^ m - y ^ m lacks to h * m * z ^ (m - 1), `lack m`, is not negative; the lacks over m! of the class 1 are
-- smaller than those two places before of the class 3, since lack (m + 2) is at most 18 * lack m from m = 3 on, where (m + 1) * (m + 2) is 20 or more.
use mathlib.Core.Path.{◌≡◌, ap, ◌∙◌}
use Prim.Native.Nat.{ℕ, zero, suc, ◌+◌, ◌*◌, ◌^◌, ◌≤◌, ◌<◌}
use native.Mathlib.Nat.{le_trans, le_of_eq, mul-pos, mul-le-mul, mul-le-mul_left, mul-le-mul_right, pow-suc, pow-zero, le-add_right, le-add_left, mul_left_comm, mul_assoc, lt_of_lt_of_le}
use native.Mathlib.Omega.{arith}
use Rattle.series.specs.Series.{num, class}
use Rattle.series.specs.Rises.{SineRises}
use Rattle.series.proofs.Terms.{square-le}
use Rattle.series.proofs.CosineFalls.{gap, gap_is, half, turn, two-terms}

module _ (y h : ℕ) where
  unfoldable lack : ℕ → ℕ
  lack zero = 0
  lack (suc m) = (y + h) * lack m + h * gap y h m

  lack-is : (m : ℕ) → (y + h) ^ suc m + lack (suc m) ≡ y ^ suc m + h * (suc m * (y + h) ^ m)
  unfolding lack gap
  lack-is zero = go (y ^ 0) ((y + h) ^ 0) (y ^ 1) ((y + h) ^ 1) (pow-zero y) (pow-zero (y + h)) (pow-suc y 0) (pow-suc (y + h) 0)
    where
      go : (p q p' q' : ℕ) → p ≡ 1 → q ≡ 1 → p' ≡ p * y → q' ≡ q * (y + h) → q' + ((y + h) * 0 + h * 0) ≡ p' + h * (1 * q)
      go p q p' q' a b e f = omega (arith, e ∙ ap (λ (x : ℕ). x * y) a, f ∙ ap (λ (x : ℕ). x * (y + h)) b, ap (λ (x : ℕ). h * x) b)
  lack-is (suc m) =
      go m (y ^ suc m) (y ^ suc (suc m)) ((y + h) ^ m) ((y + h) ^ suc m) ((y + h) ^ suc (suc m)) (lack (suc m)) (gap y h (suc m)) (pow-suc y (suc m)) (pow-suc (y + h) m) (pow-suc (y + h) (suc m)) (lack-is m) (gap_is y h (suc m))
    where
      go : (m p p' q₀ q q' l g : ℕ) → p' ≡ p * y → q ≡ q₀ * (y + h) → q' ≡ q * (y + h) → q + l ≡ p + h * (suc m * q₀) → p + g ≡ q → q' + ((y + h) * l + h * g) ≡ p' + h * (suc (suc m) * q)
      go m p p' q₀ q q' l g a b c e i = omega (arith, a, c, ap (λ (x : ℕ). x * (y + h)) e, ap (λ (x : ℕ). h * suc m * x) b, ap (λ (x : ℕ). h * x) i)

module _ (y h d : ℕ) where
  -- what a partial sum lacks
  unfoldable lacks : (c : ℕ → ℕ) → ℕ → ℕ
  lacks c zero = 0
  lacks c (suc k) = lacks c k * (d * suc k) + c (suc k) * lack y h (suc k)

  -- h times the sums of the next lower class at y + h
  abbrev slope : (c : ℕ → ℕ) → ℕ → ℕ
  slope c zero = 0
  slope c (suc k) = suc k * num (λ i. c (suc i)) (y + h) d k

  slope-next : (c : ℕ → ℕ) (k : ℕ) → slope c (suc k) ≡ slope c k * (d * suc k) + c (suc k) * (suc k * (y + h) ^ k)
  unfolding num
  slope-next c zero = go (c 1) ((y + h) ^ 0) (pow-zero (y + h))
    where
      go : (t q : ℕ) → q ≡ 1 → 1 * t ≡ 0 * (d * 1) + t * (1 * q)
      go t q e = omega (arith, ap (λ (x : ℕ). t * x) e)
  slope-next c (suc k) = go k (num (λ i. c (suc i)) (y + h) d k) (c (suc (suc k))) ((y + h) ^ suc k)
    where
      go : (k s t q : ℕ) → suc (suc k) * (s * (d * suc k) + t * q) ≡ suc k * s * (d * suc (suc k)) + t * (suc (suc k) * q)
      go k s t q = omega arith

  lacks-is : (c : ℕ → ℕ) (k : ℕ) → num c (y + h) d k + lacks c k ≡ num c y d k + h * slope c k
  unfolding lacks num
  lacks-is c zero = omega arith
  lacks-is c (suc k) =
      go (num c y d k) (num c (y + h) d k) (lacks c k) (slope c k) (slope c (suc k)) (d * suc k) (c (suc k)) (y ^ suc k) ((y + h) ^ suc k) (lack y h (suc k)) (suc k * (y + h) ^ k) (lacks-is c k) (lack-is y h k) (slope-next c k)
    where
      go : (a b l s s' f t p q m w : ℕ) → b + l ≡ a + h * s → q + m ≡ p + h * w → s' ≡ s * f + t * w → b * f + t * q + (l * f + t * m) ≡ a * f + t * p + h * s'
      go a b l s s' f t p q m w e i j = omega (arith, ap (λ (x : ℕ). x * f) e, ap (λ (x : ℕ). t * x) i, ap (λ (x : ℕ). h * x) j)

  module _ (small : y + h ≤ 2 * d) where
    -- from 3 on, lack (m + 2) is at most 18 times lack m
    lack-two : (m : ℕ) → lack y h (suc (suc (suc (suc (suc m))))) ≤ 18 * (d * d) * lack y h (suc (suc (suc m)))
    unfolding lack gap
    lack-two m = go (lack y h (suc (suc m))) (gap y h (suc m)) (gap y h m) (y ^ m) (y ^ suc m) (y ^ suc (suc m)) (y ^ suc (suc (suc m))) (pow-suc y m) (pow-suc y (suc m)) (pow-suc y (suc (suc m))) (le-add_left (h * y ^ m) ((y + h) * gap y h m))
      where
        go : (l g₁ g₀ p p₁ p₂ p₃ : ℕ) → p₁ ≡ p * y → p₂ ≡ p₁ * y → p₃ ≡ p₂ * y → h * p ≤ g₁
            → (y + h) * ((y + h) * ((y + h) * l + h * ((y + h) * g₁ + h * p₁)) + h * ((y + h) * ((y + h) * g₁ + h * p₁) + h * p₂)) + h * ((y + h) * ((y + h) * ((y + h) * g₁ + h * p₁) + h * p₂) + h * p₃)
            ≤ 18 * (d * d) * ((y + h) * l + h * ((y + h) * g₁ + h * p₁))
        go l g₁ g₀ p p₁ p₂ p₃ a b c e =
            bound (y + h) (h * p₁) ((y + h) * g₁ + h * p₁) ((y + h) * l) (le-add_right y h) small
            (half ((y + h) * g₁) (h * p₁) (le_trans (le_of_eq (turn h p₁ p y a)) (le_trans (mul-le-mul_left y e) (mul-le-mul_right g₁ (le-add_right y h)))))
            (opened (y + h) l ((y + h) * g₁ + h * p₁) (h * p₁) (h * p₂) (h * p₃) (turn h p₂ p₁ y b) (turn h p₃ p₂ y c))
          where
            -- with z = y + h, G the gap and P = h * p₁
            opened : (z l G P Q R : ℕ) → Q ≡ y * P → R ≡ y * Q → (z * (z * (z * l + h * G) + h * (z * G + Q)) + h * (z * (z * G + Q) + R)) ≡ z * z * (z * l + h * G) + h * (2 * (z * z * G) + 2 * (z * (y * P)) + y * (y * P))
            opened z l G P Q R a b = omega (arith, ap (λ (x : ℕ). z * h * x) a, ap (λ (x : ℕ). h * x) b, ap (λ (x : ℕ). h * y * x) a)

            bound : (z P G L : ℕ) {x : ℕ} → y ≤ z → z ≤ 2 * d → 2 * P ≤ G → x ≡ z * z * (L + h * G) + h * (2 * (z * z * G) + 2 * (z * (y * P)) + y * (y * P)) → x ≤ 18 * (d * d) * (L + h * G)
            bound z P G L m s t e =
                le_trans
                (sum (z * z * (L + h * G)) (h * (z * z * G)) (h * (z * (y * P))) (h * (y * (y * P))) (h * (z * (z * P))) (d * d * (L + h * G))
                (e ∙ apart (z * z * (L + h * G)) (z * z * G) (z * (y * P)) (y * (y * P)))
                (mul-le-mul_left h (mul-le-mul_left z (mul-le-mul_right P m)))
                (mul-le-mul_left h (mul-le-mul m (mul-le-mul_right P m)))
                (le_trans (le_of_eq (twice h z P)) (mul-le-mul_left h (mul-le-mul_left (z * z) t)))
                (le_trans (le_of_eq (mul_left_comm h (z * z) G)) (mul-le-mul_left (z * z) (le-add_left (h * G) L)))
                (le_trans (mul-le-mul_right (L + h * G) (square-le z d s)) (le_of_eq (mul_assoc 4 (d * d) (L + h * G)))))
                (le_of_eq (eighteen (d * d) (L + h * G)))
              where
                eighteen : (D W : ℕ) → 18 * (D * W) ≡ 18 * D * W
                eighteen D W = omega arith

                apart : (W A B C : ℕ) → W + h * (2 * A + 2 * B + C) ≡ W + (2 * (h * A) + 2 * (h * B) + h * C)
                apart W A B C = omega arith

                twice : (h z P : ℕ) → 2 * (h * (z * (z * P))) ≡ h * (z * z * (2 * P))
                twice h z P = omega arith

                sum : (W A B C E D : ℕ) {x : ℕ} → x ≡ W + (2 * A + 2 * B + C) → B ≤ E → C ≤ E → 2 * E ≤ A → A ≤ W → W ≤ 4 * D → x ≤ 18 * D
                sum W A B C E D a b c e f g = omega arith

    later : (k : ℕ) → 10 * lacks (class 1) (suc (suc k)) ≤ 9 * (lacks (class 3) k * (d * suc k) * (d * suc (suc k)))
    unfolding lacks class lack gap
    later zero = omega arith
    later (suc k) = step k (lacks (class 1) (suc (suc k))) (lacks (class 3) k) (class 3 (suc k)) (lack y h (suc k)) (lack y h (suc (suc (suc k)))) (later k) (term k)
      where
        term : (k : ℕ) → 10 * (class 3 (suc k) * lack y h (suc (suc (suc k)))) ≤ 9 * (class 3 (suc k) * lack y h (suc k) * (d * suc (suc k)) * (d * suc (suc (suc k))))
        term zero = omega arith
        term (suc zero) = omega arith
        term (suc (suc m)) = le_trans (mul-le-mul_left 10 (mul-le-mul_left (class 3 (suc (suc (suc m)))) (lack-two m))) (go m (class 3 (suc (suc (suc m)))) (lack y h (suc (suc (suc m)))))
          where
            go : (m t g : ℕ) → 10 * (t * (18 * (d * d) * g)) ≤ 9 * (t * g * (d * suc (suc (suc (suc m)))) * (d * suc (suc (suc (suc (suc m))))))
            go m t g = omega arith

        step : (k a b t g g' : ℕ) → 10 * a ≤ 9 * (b * (d * suc k) * (d * suc (suc k))) → 10 * (t * g') ≤ 9 * (t * g * (d * suc (suc k)) * (d * suc (suc (suc k))))
            → 10 * (a * (d * suc (suc (suc k))) + t * g') ≤ 9 * ((b * (d * suc k) + t * g) * (d * suc (suc k)) * (d * suc (suc (suc k))))
        step k a b t g g' i j = omega (arith, mul-le-mul_right (d * suc (suc (suc k))) i, j)

    grow : (k : ℕ) → lacks (class 3) k * (d * suc k) * (d * suc (suc k)) ≤ lacks (class 3) (suc (suc k))
    unfolding lacks
    grow k = two-terms (lacks (class 3) k) (d * suc k) (d * suc (suc k)) (class 3 (suc k) * lack y h (suc k)) (class 3 (suc (suc k)) * lack y h (suc (suc k)))

    module _ (D : 0 < d) (H : 0 < h) where
      third : 0 < lack y h 3
      unfolding lack gap
      third = go (y ^ 0) (h * ((y + h) * ((y + h) * 0 + h * y ^ 0) + h * y ^ 1)) (pow-zero y)
        where
          go : (p w : ℕ) → p ≡ 1 → 0 < (y + h) * ((y + h) * ((y + h) * 0 + h * 0) + h * ((y + h) * 0 + h * p)) + w
          go p w e = omega (arith, mul-pos H (mul-pos H H), ap (λ (x : ℕ). (y + h) * (h * (h * x))) e)

      some : (k : ℕ) → 0 < lacks (class 3) (suc (suc (suc k)))
      unfolding lacks class
      some zero = go (lacks (class 3) 2 * (d * 3)) (lack y h 3) third
        where
          go : (a b : ℕ) → 0 < b → 0 < a + 1 * b
          go a b p = omega arith
      some (suc k) = lt_of_lt_of_le (mul-pos (some k) (mul-pos D (omega arith))) (le-add_right (lacks (class 3) (suc (suc (suc k))) * (d * suc (suc (suc (suc k))))) (class 3 (suc (suc (suc (suc k)))) * lack y h (suc (suc (suc (suc k))))))

      fewer : (k : ℕ) → lacks (class 1) (suc (suc (suc k))) < lacks (class 3) (suc (suc (suc k)))
      fewer k = go (lacks (class 1) (suc (suc (suc k)))) (lacks (class 3) (suc k) * (d * suc (suc k)) * (d * suc (suc (suc k)))) (lacks (class 3) (suc (suc (suc k)))) (later (suc k)) (grow (suc k)) (some k)
        where
          go : (a m b : ℕ) → 10 * a ≤ 9 * m → m ≤ b → 0 < b → a < b
          go a m b i j p = omega arith

pub sine-rises : SineRises
unfolding class
sine-rises y h d k D H small =
    let K = suc (suc (suc k)) in
    go (num (class 1) (y + h) d K) (lacks y h d (class 1) K) (num (class 1) y d K) _ (num (class 3) (y + h) d K) (lacks y h d (class 3) K) (num (class 3) y d K) _
    (lacks-is y h d (class 1) K) (lacks-is y h d (class 3) K) (fewer y h d small D H k)
  where
    go : (a l b s a' l' b' s' : ℕ) → a + l ≡ b + s → a' + l' ≡ b' + s' → l < l' → b + a' + s < a + b' + s'
    go a l b s a' l' b' s' e i p = omega arith
