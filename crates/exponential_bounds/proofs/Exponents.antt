-- Bounds of powers of e by fractions: e ^ (x + y) = e ^ x * e ^ y, once as an upper bound and once as a lower one; a smaller exponent, and another way to write the fraction.
use mathlib.Core.Path.{◌≡◌, refl, ap, ◌∙◌}
use Prim.Native.Nat.{ℕ, zero, suc, ◌+◌, ◌*◌, ◌^◌, ◌≤◌, ◌<◌}
use native.Mathlib.Nat.{le_trans, le_of_eq, mul_comm, mul-le-mul, mul-le-mul_left, mul-le-mul_right, mul-pos, le_of_mul-le-mul_right, pow-suc, mul-zero}
use native.Mathlib.Omega.{arith}
use Rattle.series.specs.Series.{full, num, one}
use Rattle.series.proofs.Addition.{full-pos, exp-under, exp-over}
use Rattle.series.proofs.Exponential.{Enc}
use Rattle.series.proofs.ExpFraction.{ratio}
use Rattle.series.specs.Series.{ExpLe, ExpGe}

-- ---- from an enclosure
pub enc-le : (n d lo hi m : ℕ) → Enc n d lo hi m → ExpLe n d hi m
enc-le n d lo hi m E k = le_trans (le_of_eq (mul_comm (num one n d k) m)) (E.high k)

pub enc-ge : (n d lo hi m : ℕ) → Enc n d lo hi m → ExpGe n d lo m
enc-ge n d lo hi m E = (E.at, le_trans E.low (le_of_eq (mul_comm m (num one n d E.at))))

-- ---- e ^ 0
num-0 : (d k : ℕ) → num one 0 d k ≡ full d k
unfolding num full
num-0 d zero = refl
num-0 d (suc k) = go (num one 0 d k) (full d k) (d * suc k) (0 ^ suc k) (num-0 d k) (pow-suc 0 k ∙ mul-zero (0 ^ k))
  where
    go : (x f c p : ℕ) → x ≡ f → p ≡ 0 → x * c + 1 * p ≡ f * c
    go x f c p e z = omega (arith, ap (λ (y : ℕ). y * c) e)

pub zero-le : (d : ℕ) → ExpLe 0 d 1 1
zero-le d k = le_trans (le_of_eq (ap (λ (x : ℕ). x * 1) (num-0 d k))) (go (full d k))
  where
    go : (f : ℕ) → f * 1 ≤ 1 * f
    go f = omega arith

-- ---- sums and differences of exponents
module _ (x y d : ℕ) (D : 0 < d) (a b a' b' : ℕ) where
  pub le-times : ExpLe x d a b → ExpLe y d a' b' → ExpLe (x + y) d (a * a') (b * b')
  le-times A B k = go (num one (x + y) d k) (num one x d k) (num one y d k) (full d k) (full-pos d k D) (exp-under x y d D k) (A k) (B k)
    where
      go : (s p q f : ℕ) → 0 < f → s * f ≤ p * q → p * b ≤ a * f → q * b' ≤ a' * f → s * (b * b') ≤ a * a' * f
      go s p q f P u v w = le_of_mul-le-mul_right {k = f} (omega (arith, mul-le-mul_right (b * b') u, mul-le-mul v w)) P

  pub ge-times : ExpGe x d a b → ExpGe y d a' b' → ExpGe (x + y) d (a * a') (b * b')
  ge-times A B =
      let M = A.0 in
      let L = B.0 in
      (M + L, go (num one (x + y) d (M + L)) (num one x d M) (num one y d L) (full d M) (full d L) (full d (M + L)) (full-pos d M D) (full-pos d L D) (exp-over x y d D M L) A.1 B.1)
    where
      go : (s p q f g F : ℕ) → 0 < f → 0 < g → p * q * F ≤ s * (f * g) → a * f ≤ p * b → a' * g ≤ q * b' → a * a' * F ≤ s * (b * b')
      go s p q f g F P Q u v w = le_of_mul-le-mul_right {k = f * g} (omega (arith, mul-le-mul_right (b * b') u, mul-le-mul_right F (mul-le-mul v w))) (mul-pos P Q)

  pub le-over : ExpLe (x + y) d a b → ExpGe y d a' b' → ExpLe x d (a * b') (b * a')
  le-over A B k =
      let L = B.0 in
      go (num one (x + y) d (k + L)) (num one x d k) (num one y d L) (full d k) (full d L) (full d (k + L)) (full-pos d L D) (full-pos d (k + L) D) (exp-over x y d D k L) (A (k + L)) B.1
    where
      go : (s p q f g F : ℕ) → 0 < g → 0 < F → p * q * F ≤ s * (f * g) → s * b ≤ a * F → a' * g ≤ q * b' → p * (b * a') ≤ a * b' * f
      go s p q f g F P Q u v w =
          let t : p * q * b ≤ a * (f * g) = le_of_mul-le-mul_right {k = F} (omega (arith, mul-le-mul_right b u, mul-le-mul_right (f * g) v)) Q in
          le_of_mul-le-mul_right {k = g} (omega (arith, mul-le-mul_left (p * b) w, mul-le-mul_right b' t)) P

  pub ge-over : ExpGe (x + y) d a b → ExpLe y d a' b' → ExpGe x d (a * b') (b * a')
  ge-over A B =
      let k = A.0 in
      (k, go (num one (x + y) d k) (num one x d k) (num one y d k) (full d k) (full-pos d k D) (exp-under x y d D k) A.1 (B k))
    where
      go : (s p q f : ℕ) → 0 < f → s * f ≤ p * q → a * f ≤ s * b → q * b' ≤ a' * f → a * b' * f ≤ p * (b * a')
      go s p q f P u v w = le_of_mul-le-mul_right {k = f} (omega (arith, mul-le-mul_right (f * b') v, mul-le-mul_right (b * b') u, mul-le-mul_left (p * b) w)) P

-- ---- another exponent, and another way to write the fraction
pub lower-le : (n d n₀ d₀ a b : ℕ) → 0 < d → 0 < d₀ → n * d₀ ≤ n₀ * d → ExpLe n₀ d₀ a b → ExpLe n d a b
lower-le n d n₀ d₀ a b D D₀ h E k = go (num one n d k) (full d k) (num one n₀ d₀ k) (full d₀ k) (full-pos d₀ k D₀) (ratio n d n₀ d₀ k D D₀ h) (E k)
  where
    go : (x f x₀ f₀ : ℕ) → 0 < f₀ → x * f₀ ≤ x₀ * f → x₀ * b ≤ a * f₀ → x * b ≤ a * f
    go x f x₀ f₀ P p q = le_of_mul-le-mul_right {k = f₀} (omega (arith, mul-le-mul_right b p, mul-le-mul_right f q)) P

pub upper-ge : (n d n₀ d₀ a b : ℕ) → 0 < d → 0 < d₀ → n₀ * d ≤ n * d₀ → ExpGe n₀ d₀ a b → ExpGe n d a b
upper-ge n d n₀ d₀ a b D D₀ h E = let k = E.0 in (k, go (num one n d k) (full d k) (num one n₀ d₀ k) (full d₀ k) (full-pos d₀ k D₀) (ratio n₀ d₀ n d k D₀ D h) E.1)
  where
    go : (x f x₀ f₀ : ℕ) → 0 < f₀ → x₀ * f ≤ x * f₀ → a * f₀ ≤ x₀ * b → a * f ≤ x * b
    go x f x₀ f₀ P p q = le_of_mul-le-mul_right {k = f₀} (omega (arith, mul-le-mul_right b p, mul-le-mul_right f q)) P

pub same-le : (n d a b a' b' : ℕ) → 0 < b → a * b' ≡ a' * b → ExpLe n d a b → ExpLe n d a' b'
same-le n d a b a' b' B e E k = go (num one n d k) (full d k) (E k)
  where
    go : (x f : ℕ) → x * b ≤ a * f → x * b' ≤ a' * f
    go x f h = le_of_mul-le-mul_right {k = b} (omega (arith, mul-le-mul_right b' h, ap (λ (y : ℕ). y * f) e)) B

pub same-ge : (n d a b a' b' : ℕ) → 0 < b → a * b' ≡ a' * b → ExpGe n d a b → ExpGe n d a' b'
same-ge n d a b a' b' B e E = (E.0, go (num one n d E.0) (full d E.0) E.1)
  where
    go : (x f : ℕ) → a * f ≤ x * b → a' * f ≤ x * b'
    go x f h = le_of_mul-le-mul_right {k = b} (omega (arith, mul-le-mul_right b' h, ap (λ (y : ℕ). y * f) e)) B
