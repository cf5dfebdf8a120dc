-- Fractions that enclose the four classes e_0 .. e_3 of the exponential series at x = n / d, and so sine and cosine; `plus` adds two arguments by the addition theorems.
use Prim.Native.Nat.{ℕ, ◌+◌, ◌*◌, ◌≤◌, ◌<◌}
use native.Mathlib.Nat.{mul-le-mul, mul-le-mul_left, mul-le-mul_right, mul-pos, le_of_mul-le-mul_right}
use native.Mathlib.Omega.{arith}
use Rattle.series.specs.Series.{full, num, class}
use Rattle.series.proofs.Addition.{full-pos}
use Rattle.series.proofs.Quarters.{under-0, under-1, under-2, under-3, over-0, over-1, over-2, over-3}

-- ---- the four classes at once
pub record Enc4 (n d m l₀ l₁ l₂ l₃ h₀ h₁ h₂ h₃ : ℕ) : Type 0 where
  pub at : ℕ
  pub low0 : l₀ * full d at ≤ m * num (class 0) n d at
  pub low1 : l₁ * full d at ≤ m * num (class 1) n d at
  pub low2 : l₂ * full d at ≤ m * num (class 2) n d at
  pub low3 : l₃ * full d at ≤ m * num (class 3) n d at
  pub high0 : (k : ℕ) → m * num (class 0) n d k ≤ h₀ * full d k
  pub high1 : (k : ℕ) → m * num (class 1) n d k ≤ h₁ * full d k
  pub high2 : (k : ℕ) → m * num (class 2) n d k ≤ h₂ * full d k
  pub high3 : (k : ℕ) → m * num (class 3) n d k ≤ h₃ * full d k

-- ---- at a sum of arguments
pub pair : (p f m x q g m' y : ℕ) → p * f ≤ m * x → q * g ≤ m' * y → p * q * (f * g) ≤ m * m' * (x * y)
pair p f m x q g m' y a b = omega (arith, mul-le-mul a b)

pub pair' : (m x p f m' y q : ℕ) → m * x ≤ p * f → m' * y ≤ q * f → x * y * (m * m') ≤ f * f * (p * q)
pair' m x p f m' y q a b = omega (arith, mul-le-mul a b)

pub sum4 : (w k a b c d a' b' c' d' : ℕ) → a * w ≤ k * a' → b * w ≤ k * b' → c * w ≤ k * c' → d * w ≤ k * d' → (a + b + c + d) * w ≤ k * (a' + b' + c' + d')
sum4 w k a b c d a' b' c' d' e f g h = omega arith

join-low : (S Y w k F s : ℕ) → 0 < w → S * w ≤ k * Y → Y * F ≤ s * w → S * F ≤ k * s
join-low S Y w k F s W a b = le_of_mul-le-mul_right {k = w} (omega (arith, mul-le-mul_right F a, mul-le-mul_left k b)) W

join-high : (S Y f k s : ℕ) → 0 < f → Y * k ≤ f * f * S → s * f ≤ Y → k * s ≤ S * f
join-high S Y f k s P a b = le_of_mul-le-mul_right {k = f} (omega (arith, a, mul-le-mul_right k b)) P

four_low : (m m' f g F s x₀ y₀ x₁ y₁ x₂ y₂ x₃ y₃ p₀ q₀ p₁ q₁ p₂ q₂ p₃ q₃ : ℕ) → 0 < f → 0 < g
    → p₀ * f ≤ m * x₀ → q₀ * g ≤ m' * y₀ → p₁ * f ≤ m * x₁ → q₁ * g ≤ m' * y₁ → p₂ * f ≤ m * x₂ → q₂ * g ≤ m' * y₂ → p₃ * f ≤ m * x₃ → q₃ * g ≤ m' * y₃
    → (x₀ * y₀ + x₁ * y₁ + x₂ * y₂ + x₃ * y₃) * F ≤ s * (f * g) → (p₀ * q₀ + p₁ * q₁ + p₂ * q₂ + p₃ * q₃) * F ≤ m * m' * s
four_low m m' f g F s x₀ y₀ x₁ y₁ x₂ y₂ x₃ y₃ p₀ q₀ p₁ q₁ p₂ q₂ p₃ q₃ P Q a₀ b₀ a₁ b₁ a₂ b₂ a₃ b₃ r =
    join-low (p₀ * q₀ + p₁ * q₁ + p₂ * q₂ + p₃ * q₃) (x₀ * y₀ + x₁ * y₁ + x₂ * y₂ + x₃ * y₃) (f * g) (m * m') F s (mul-pos P Q)
    (sum4 (f * g) (m * m') (p₀ * q₀) (p₁ * q₁) (p₂ * q₂) (p₃ * q₃) (x₀ * y₀) (x₁ * y₁) (x₂ * y₂) (x₃ * y₃) (pair p₀ f m x₀ q₀ g m' y₀ a₀ b₀) (pair p₁ f m x₁ q₁ g m' y₁ a₁ b₁) (pair p₂ f m x₂ q₂ g m' y₂ a₂ b₂) (pair p₃ f m x₃ q₃ g m' y₃ a₃ b₃)) r

four-high : (m m' f s x₀ y₀ x₁ y₁ x₂ y₂ x₃ y₃ p₀ q₀ p₁ q₁ p₂ q₂ p₃ q₃ : ℕ) → 0 < f
    → m * x₀ ≤ p₀ * f → m' * y₀ ≤ q₀ * f → m * x₁ ≤ p₁ * f → m' * y₁ ≤ q₁ * f → m * x₂ ≤ p₂ * f → m' * y₂ ≤ q₂ * f → m * x₃ ≤ p₃ * f → m' * y₃ ≤ q₃ * f
    → s * f ≤ x₀ * y₀ + x₁ * y₁ + x₂ * y₂ + x₃ * y₃ → m * m' * s ≤ (p₀ * q₀ + p₁ * q₁ + p₂ * q₂ + p₃ * q₃) * f
four-high m m' f s x₀ y₀ x₁ y₁ x₂ y₂ x₃ y₃ p₀ q₀ p₁ q₁ p₂ q₂ p₃ q₃ P a₀ b₀ a₁ b₁ a₂ b₂ a₃ b₃ r =
    join-high (p₀ * q₀ + p₁ * q₁ + p₂ * q₂ + p₃ * q₃) (x₀ * y₀ + x₁ * y₁ + x₂ * y₂ + x₃ * y₃) f (m * m') s P
    (sum4 (m * m') (f * f) (x₀ * y₀) (x₁ * y₁) (x₂ * y₂) (x₃ * y₃) (p₀ * q₀) (p₁ * q₁) (p₂ * q₂) (p₃ * q₃)
    (pair' m x₀ p₀ f m' y₀ q₀ a₀ b₀) (pair' m x₁ p₁ f m' y₁ q₁ a₁ b₁) (pair' m x₂ p₂ f m' y₂ q₂ a₂ b₂) (pair' m x₃ p₃ f m' y₃ q₃ a₃ b₃)) r

pub plus : (a b d m l₀ l₁ l₂ l₃ h₀ h₁ h₂ h₃ m' l'₀ l'₁ l'₂ l'₃ h'₀ h'₁ h'₂ h'₃ : ℕ) → 0 < d → Enc4 a d m l₀ l₁ l₂ l₃ h₀ h₁ h₂ h₃ → Enc4 b d m' l'₀ l'₁ l'₂ l'₃ h'₀ h'₁ h'₂ h'₃
    → Enc4 (a + b) d (m * m')
    (l₀ * l'₀ + l₁ * l'₃ + l₂ * l'₂ + l₃ * l'₁)
    (l₀ * l'₁ + l₁ * l'₀ + l₂ * l'₃ + l₃ * l'₂)
    (l₀ * l'₂ + l₁ * l'₁ + l₂ * l'₀ + l₃ * l'₃)
    (l₀ * l'₃ + l₁ * l'₂ + l₂ * l'₁ + l₃ * l'₀)
    (h₀ * h'₀ + h₁ * h'₃ + h₂ * h'₂ + h₃ * h'₁)
    (h₀ * h'₁ + h₁ * h'₀ + h₂ * h'₃ + h₃ * h'₂)
    (h₀ * h'₂ + h₁ * h'₁ + h₂ * h'₀ + h₃ * h'₃)
    (h₀ * h'₃ + h₁ * h'₂ + h₂ * h'₁ + h₃ * h'₀)
plus a b d m l₀ l₁ l₂ l₃ h₀ h₁ h₂ h₃ m' l'₀ l'₁ l'₂ l'₃ h'₀ h'₁ h'₂ h'₃ D A B =
    let M = A.at in
    let L = B.at in
    record {
      at = M + L;
      low0 = four_low m m' (full d M) (full d L) (full d (M + L)) (num (class 0) (a + b) d (M + L)) (num (class 0) a d M) (num (class 0) b d L) (num (class 1) a d M) (num (class 3) b d L) (num (class 2) a d M) (num (class 2) b d L) (num (class 3) a d M) (num (class 1) b d L) l₀ l'₀ l₁ l'₃ l₂ l'₂ l₃ l'₁ (full-pos d M D) (full-pos d L D) A.low0 B.low0 A.low1 B.low3 A.low2 B.low2 A.low3 B.low1 (over-0 a b d D M L);
      low1 = four_low m m' (full d M) (full d L) (full d (M + L)) (num (class 1) (a + b) d (M + L)) (num (class 0) a d M) (num (class 1) b d L) (num (class 1) a d M) (num (class 0) b d L) (num (class 2) a d M) (num (class 3) b d L) (num (class 3) a d M) (num (class 2) b d L) l₀ l'₁ l₁ l'₀ l₂ l'₃ l₃ l'₂ (full-pos d M D) (full-pos d L D) A.low0 B.low1 A.low1 B.low0 A.low2 B.low3 A.low3 B.low2 (over-1 a b d D M L);
      low2 = four_low m m' (full d M) (full d L) (full d (M + L)) (num (class 2) (a + b) d (M + L)) (num (class 0) a d M) (num (class 2) b d L) (num (class 1) a d M) (num (class 1) b d L) (num (class 2) a d M) (num (class 0) b d L) (num (class 3) a d M) (num (class 3) b d L) l₀ l'₂ l₁ l'₁ l₂ l'₀ l₃ l'₃ (full-pos d M D) (full-pos d L D) A.low0 B.low2 A.low1 B.low1 A.low2 B.low0 A.low3 B.low3 (over-2 a b d D M L);
      low3 = four_low m m' (full d M) (full d L) (full d (M + L)) (num (class 3) (a + b) d (M + L)) (num (class 0) a d M) (num (class 3) b d L) (num (class 1) a d M) (num (class 2) b d L) (num (class 2) a d M) (num (class 1) b d L) (num (class 3) a d M) (num (class 0) b d L) l₀ l'₃ l₁ l'₂ l₂ l'₁ l₃ l'₀ (full-pos d M D) (full-pos d L D) A.low0 B.low3 A.low1 B.low2 A.low2 B.low1 A.low3 B.low0 (over-3 a b d D M L);
      high0 = λ k. four-high m m' (full d k) (num (class 0) (a + b) d k) (num (class 0) a d k) (num (class 0) b d k) (num (class 1) a d k) (num (class 3) b d k) (num (class 2) a d k) (num (class 2) b d k) (num (class 3) a d k) (num (class 1) b d k) h₀ h'₀ h₁ h'₃ h₂ h'₂ h₃ h'₁ (full-pos d k D) (A.high0 k) (B.high0 k) (A.high1 k) (B.high3 k) (A.high2 k) (B.high2 k) (A.high3 k) (B.high1 k) (under-0 a b d D k);
      high1 = λ k. four-high m m' (full d k) (num (class 1) (a + b) d k) (num (class 0) a d k) (num (class 1) b d k) (num (class 1) a d k) (num (class 0) b d k) (num (class 2) a d k) (num (class 3) b d k) (num (class 3) a d k) (num (class 2) b d k) h₀ h'₁ h₁ h'₀ h₂ h'₃ h₃ h'₂ (full-pos d k D) (A.high0 k) (B.high1 k) (A.high1 k) (B.high0 k) (A.high2 k) (B.high3 k) (A.high3 k) (B.high2 k) (under-1 a b d D k);
      high2 = λ k. four-high m m' (full d k) (num (class 2) (a + b) d k) (num (class 0) a d k) (num (class 2) b d k) (num (class 1) a d k) (num (class 1) b d k) (num (class 2) a d k) (num (class 0) b d k) (num (class 3) a d k) (num (class 3) b d k) h₀ h'₂ h₁ h'₁ h₂ h'₀ h₃ h'₃ (full-pos d k D) (A.high0 k) (B.high2 k) (A.high1 k) (B.high1 k) (A.high2 k) (B.high0 k) (A.high3 k) (B.high3 k) (under-2 a b d D k);
      high3 = λ k. four-high m m' (full d k) (num (class 3) (a + b) d k) (num (class 0) a d k) (num (class 3) b d k) (num (class 1) a d k) (num (class 2) b d k) (num (class 2) a d k) (num (class 1) b d k) (num (class 3) a d k) (num (class 0) b d k) h₀ h'₃ h₁ h'₂ h₂ h'₁ h₃ h'₀ (full-pos d k D) (A.high0 k) (B.high3 k) (A.high1 k) (B.high2 k) (A.high2 k) (B.high1 k) (A.high3 k) (B.high0 k) (under-3 a b d D k);
    }
