-- The exponential series grows with the value of its fraction.
use mathlib.Core.Path.{◌≡◌, sym, ap, ◌∙◌}
use Prim.Native.Nat.{ℕ, ◌*◌, ◌^◌, ◌≤◌, ◌<◌}
use native.Mathlib.Nat.{le_trans, le_of_eq, mul_assoc, mul_comm, mul-le-mul_right, le_of_mul-le-mul_right, mul-pos, one-le-pow}
use native.Mathlib.Omega.{arith}
use Rattle.series.specs.Series.{full, num, one}
use Rattle.series.proofs.Fractions.{full-scale, num-scale, num-mono}
use Rattle.series.proofs.Exponential.{Enc}

-- A is at most e ^ (n₀ / d₀), so at most e ^ (n / d), for n₀ / d₀ ≤ n / d
pub beyond : (n d n₀ d₀ A k : ℕ) → 0 < d₀ → n₀ * d ≤ n * d₀ → A * full d₀ k ≤ num one n₀ d₀ k → A * full d k ≤ num one n d k
beyond n d n₀ d₀ A k D h l =
    le_of_mul-le-mul_right {k = d₀ ^ k}
    (le_trans (le_of_eq (mul_assoc A (full d k) (d₀ ^ k) ∙ ap (λ (x : ℕ). A * x) (sym (full-scale d d₀ k) ∙ ap (λ (y : ℕ). full y k) (mul_comm d d₀) ∙ full-scale d₀ d k) ∙ sym (mul_assoc A (full d₀ k) (d ^ k))))
    (le_trans (mul-le-mul_right (d ^ k) l)
    (le_trans (le_of_eq (sym (num-scale one n₀ d₀ d k)))
    (le_trans (num-mono one (n₀ * d) (n * d₀) (d₀ * d) k h)
    (le_of_eq (ap (λ (y : ℕ). num one (n * d₀) y k) (mul_comm d₀ d) ∙ num-scale one n d d₀ k))))))
    (one-le-pow k d₀ D)

-- the sums' own order: n / d ≤ n₀ / d₀
pub ratio : (n d n₀ d₀ k : ℕ) → 0 < d → 0 < d₀ → n * d₀ ≤ n₀ * d → num one n d k * full d₀ k ≤ num one n₀ d₀ k * full d k
ratio n d n₀ d₀ k D D₀ h =
    go (num one n d k) (full d₀ k) (num one n₀ d₀ k) (full d k) (d₀ ^ k) (d ^ k) (one-le-pow k d₀ D₀) (one-le-pow k d D)
    (le_trans (le_of_eq (sym (num-scale one n d d₀ k))) (le_trans (num-mono one (n * d₀) (n₀ * d) (d * d₀) k h) (le_of_eq (ap (λ (y : ℕ). num one (n₀ * d) y k) (mul_comm d d₀) ∙ num-scale one n₀ d₀ d k))))
    (sym (full-scale d d₀ k) ∙ ap (λ (y : ℕ). full y k) (mul_comm d d₀) ∙ full-scale d₀ d k)
  where
    go : (x f₀ x₀ f p q : ℕ) → 0 < p → 0 < q → x * p ≤ x₀ * q → f * p ≡ f₀ * q → x * f₀ ≤ x₀ * f
    go x f₀ x₀ f p q P Q a e = le_of_mul-le-mul_right {k = p * q} (omega (arith, mul-le-mul_right (f₀ * q) a, ap (λ (z : ℕ). x₀ * q * z) e)) (mul-pos P Q)

-- ---- enclosures
pub scale : (n d c lo hi m : ℕ) → Enc n d lo hi m → Enc (n * c) (d * c) lo hi m
scale n d c lo hi m E =
    record {
      at = E.at;
      low = go lo m (full d E.at) (num one n d E.at) (c ^ E.at) (full (d * c) E.at) (num one (n * c) (d * c) E.at) (full-scale d c E.at) (num-scale one n d c E.at) E.low;
      high = λ k. go m hi (num one n d k) (full d k) (c ^ k) (num one (n * c) (d * c) k) (full (d * c) k) (num-scale one n d c k) (full-scale d c k) (E.high k);
    }
  where
    go : (l m f x w f' x' : ℕ) → f' ≡ f * w → x' ≡ x * w → l * f ≤ m * x → l * f' ≤ m * x'
    go l m f x w f' x' e g h = omega (arith, ap (λ (y : ℕ). l * y) e, ap (λ (y : ℕ). m * y) g, mul-le-mul_right w h)

pub weaken : (n d lo hi m lo' hi' : ℕ) → lo' ≤ lo → hi ≤ hi' → Enc n d lo hi m → Enc n d lo' hi' m
weaken n d lo hi m lo' hi' l h E =
    record { at = E.at; low = le_trans (mul-le-mul_right (full d E.at) l) E.low; high = λ k. le_trans (E.high k) (mul-le-mul_right (full d k) h) }
