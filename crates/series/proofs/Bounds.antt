-- From enclosures of the four classes to bounds of sine and cosine: a lower bound of one partial sum serves for all later ones, since they grow.
use mathlib.Core.Path.{◌≡◌, sym, ap, subst₂}
use Prim.Native.Nat.{ℕ, ◌+◌, ◌*◌, ◌^◌, ◌≤◌, ◌<◌}
use native.Mathlib.Nat.{mul-le-mul_right, le_of_mul-le-mul_right}
use native.Mathlib.Omega.{arith}
use Rattle.series.specs.Series.{full, num, class, Later, SinLe, SinGe}
use Rattle.series.proofs.Weighted.{low-later}
use Rattle.series.proofs.Fractions.{full-scale, num-scale}
use Rattle.series.proofs.Waves.{Enc4}
use Rattle.series.proofs.SmallAngle.{class-le}

combine : (F c n M p q r s h h' l l' : ℕ) → 0 < M → M * p ≤ h * F → M * q ≤ h' * F → l * F ≤ M * r → l' * F ≤ M * s → h * c + h' * n ≤ l * c + l' * n → p * c + q * n ≤ r * c + s * n
combine F c n M p q r s h h' l l' P a b e g i =
    le_of_mul-le-mul_right {k = M} (omega (arith, mul-le-mul_right c a, mul-le-mul_right n b, mul-le-mul_right c e, mul-le-mul_right n g, mul-le-mul_right F i)) P

module _ (y d M l₀ l₁ l₂ l₃ h₀ h₁ h₂ h₃ : ℕ) (D : 0 < d) (P : 0 < M) (E : Enc4 y d M l₀ l₁ l₂ l₃ h₀ h₁ h₂ h₃) where
  low : (r l : ℕ) → l * full d E.at ≤ M * num (class r) y d E.at → (k : ℕ) → E.at ≤ k → l * full d k ≤ M * num (class r) y d k
  low r l h k le = low-later (class r) (class-le r) y d l M E.at D h k le

  pub sin-le : (n c : ℕ) → h₁ * c + h₂ * n ≤ l₃ * c + l₀ * n → SinLe y d n c
  sin-le n c h = (E.at, λ k le. combine (full d k) c n M (num (class 1) y d k) (num (class 2) y d k) (num (class 3) y d k) (num (class 0) y d k) h₁ h₂ l₃ l₀ P (E.high1 k) (E.high2 k) (low 3 l₃ E.low3 k le) (low 0 l₀ E.low0 k le) h)

  pub sin-ge : (n c : ℕ) → h₃ * c + h₀ * n ≤ l₁ * c + l₂ * n → SinGe y d n c
  sin-ge n c h = (E.at, λ k le. combine (full d k) c n M (num (class 3) y d k) (num (class 0) y d k) (num (class 1) y d k) (num (class 2) y d k) h₃ h₀ l₁ l₂ P (E.high3 k) (E.high0 k) (low 1 l₁ E.low1 k le) (low 2 l₂ E.low2 k le) h)

  -- the cosine is not negative, or not positive
  pub cos-plus : h₂ ≤ l₀ → Later (λ k. num (class 2) y d k ≤ num (class 0) y d k)
  cos-plus h = (E.at, λ k le. le_of_mul-le-mul_right {k = M} (go (num (class 2) y d k) (num (class 0) y d k) (full d k) (E.high2 k) (low 0 l₀ E.low0 k le)) P)
    where
      go : (p q F : ℕ) → M * p ≤ h₂ * F → l₀ * F ≤ M * q → p * M ≤ q * M
      go p q F a b = omega (arith, mul-le-mul_right F h)

  pub cos-minus : h₀ ≤ l₂ → Later (λ k. num (class 0) y d k ≤ num (class 2) y d k)
  cos-minus h = (E.at, λ k le. le_of_mul-le-mul_right {k = M} (go (num (class 0) y d k) (num (class 2) y d k) (full d k) (E.high0 k) (low 2 l₂ E.low2 k le)) P)
    where
      go : (p q F : ℕ) → M * p ≤ h₀ * F → l₂ * F ≤ M * q → p * M ≤ q * M
      go p q F a b = omega (arith, mul-le-mul_right F h)

  -- the sine is at most n / c, or at least
  pub sine-le : (n c : ℕ) → h₁ * c ≤ l₃ * c + n * M → Later (λ k. num (class 1) y d k * c ≤ num (class 3) y d k * c + n * full d k)
  sine-le n c h = (E.at, λ k le. le_of_mul-le-mul_right {k = M} (go (num (class 1) y d k) (num (class 3) y d k) (full d k) (E.high1 k) (low 3 l₃ E.low3 k le)) P)
    where
      go : (p q F : ℕ) → M * p ≤ h₁ * F → l₃ * F ≤ M * q → p * c * M ≤ (q * c + n * F) * M
      go p q F a b = omega (arith, mul-le-mul_right F h, mul-le-mul_right c a, mul-le-mul_right c b)

  pub sine-ge : (n c : ℕ) → h₃ * c + n * M ≤ l₁ * c → Later (λ k. num (class 3) y d k * c + n * full d k ≤ num (class 1) y d k * c)
  sine-ge n c h = (E.at, λ k le. le_of_mul-le-mul_right {k = M} (go (num (class 3) y d k) (num (class 1) y d k) (full d k) (E.high3 k) (low 1 l₁ E.low1 k le)) P)
    where
      go : (p q F : ℕ) → M * p ≤ h₃ * F → l₁ * F ≤ M * q → (p * c + n * F) * M ≤ q * c * M
      go p q F a b = omega (arith, mul-le-mul_right F h, mul-le-mul_right c a, mul-le-mul_right c b)

-- ---- the series sees only the value of its fraction
pub enc-scaled : (y d q M l₀ l₁ l₂ l₃ h₀ h₁ h₂ h₃ : ℕ) → Enc4 y d M l₀ l₁ l₂ l₃ h₀ h₁ h₂ h₃ → Enc4 (y * q) (d * q) M l₀ l₁ l₂ l₃ h₀ h₁ h₂ h₃
enc-scaled y d q M l₀ l₁ l₂ l₃ h₀ h₁ h₂ h₃ E =
    record {
      at = E.at;
      low0 = low 0 l₀ E.at E.low0;
      low1 = low 1 l₁ E.at E.low1;
      low2 = low 2 l₂ E.at E.low2;
      low3 = low 3 l₃ E.at E.low3;
      high0 = λ k. high 0 h₀ k (E.high0 k);
      high1 = λ k. high 1 h₁ k (E.high1 k);
      high2 = λ k. high 2 h₂ k (E.high2 k);
      high3 = λ k. high 3 h₃ k (E.high3 k);
    }
  where
    go : (l f x s : ℕ) → l * f ≤ M * x → l * (f * s) ≤ M * (x * s)
    go l f x s h = omega (arith, mul-le-mul_right s h)

    up : (h f x s : ℕ) → M * x ≤ h * f → M * (x * s) ≤ h * (f * s)
    up h f x s a = omega (arith, mul-le-mul_right s a)

    low : (r l k : ℕ) → l * full d k ≤ M * num (class r) y d k → l * full (d * q) k ≤ M * num (class r) (y * q) (d * q) k
    low r l k h = subst₂ (λ (f x : ℕ). l * f ≤ M * x) (sym (full-scale d q k)) (sym (num-scale (class r) y d q k)) (go l (full d k) (num (class r) y d k) (q ^ k) h)

    high : (r h k : ℕ) → M * num (class r) y d k ≤ h * full d k → M * num (class r) (y * q) (d * q) k ≤ h * full (d * q) k
    high r h k a = subst₂ (λ (f x : ℕ). M * x ≤ h * f) (sym (full-scale d q k)) (sym (num-scale (class r) y d q k)) (up h (full d k) (num (class r) y d k) (q ^ k) a)

scaled : (n c s a b e f : ℕ) → a * c + b * n ≤ e * c + f * n → a * s * c + b * s * n ≤ e * s * c + f * s * n
scaled n c s a b e f h = omega (arith, mul-le-mul_right s h)

pub le-scaled : (y d n c q : ℕ) → SinLe y d n c → SinLe (y * q) (d * q) n c
le-scaled y d n c q L = (L.0, λ k h. rw (num-scale (class 1) y d q k, num-scale (class 2) y d q k, num-scale (class 3) y d q k, num-scale (class 0) y d q k) (scaled n c (q ^ k) (num (class 1) y d k) (num (class 2) y d k) (num (class 3) y d k) (num (class 0) y d k) (L.1 k h)))

pub ge-scaled : (y d n c q : ℕ) → SinGe y d n c → SinGe (y * q) (d * q) n c
ge-scaled y d n c q L = (L.0, λ k h. rw (num-scale (class 1) y d q k, num-scale (class 2) y d q k, num-scale (class 3) y d q k, num-scale (class 0) y d q k) (scaled n c (q ^ k) (num (class 3) y d k) (num (class 0) y d k) (num (class 1) y d k) (num (class 2) y d k) (L.1 k h)))

-- ---- and of x only its value
swap-frac : (a b e f n c n' c' : ℕ) → 0 < c → n' * c ≡ n * c' → a * c + b * n ≤ e * c + f * n → a * c' + b * n' ≤ e * c' + f * n'
swap-frac a b e f n c n' c' P q h = le_of_mul-le-mul_right {k = c} (omega (arith, mul-le-mul_right c' h, ap (λ (x : ℕ). b * x) q, ap (λ (x : ℕ). f * x) q)) P

pub le_same : (y d n c n' c' : ℕ) → 0 < c → n' * c ≡ n * c' → SinLe y d n c → SinLe y d n' c'
le_same y d n c n' c' P q L = (L.0, λ k h. swap-frac (num (class 1) y d k) (num (class 2) y d k) (num (class 3) y d k) (num (class 0) y d k) n c n' c' P q (L.1 k h))

pub ge-same : (y d n c n' c' : ℕ) → 0 < c → n' * c ≡ n * c' → SinGe y d n c → SinGe y d n' c'
ge-same y d n c n' c' P q L = (L.0, λ k h. swap-frac (num (class 3) y d k) (num (class 0) y d k) (num (class 1) y d k) (num (class 2) y d k) n c n' c' P q (L.1 k h))
