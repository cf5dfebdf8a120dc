-- The terms that `rise_of` adds, each cut off, are at most two units below those of the power series, so their sum is at most two units for each term below the partial sum.
use mathlib.Core.Path.{◌≡◌, sym, ap, subst}
use Prim.Native.Nat.{ℕ, zero, suc, ◌+◌, ◌*◌, ◌/◌, ◌^◌, ◌≤◌, ◌<◌}
use native.Mathlib.Nat.{le_trans, le_of_eq, le_of_lt, mul-le-mul_left, mul-le-mul_right, pow-suc, div-mul-le_self, lt-div-mul-add}
use native.Mathlib.Omega.{arith}
use lib.Dec.{lit<}
use Rattle.series.proofs.Terms.{pow-1}
use native.Mathlib.Numerals.{add-two}
use Rattle.series.specs.Series.{full, num, one}
use Rattle.series.proofs.Exponential.{Enc, enclosed}
use Rattle.exponential.specs.Exp.{term, sum_to, rise_of}
use Rattle.exponential.proofs.ExpRange.{term-4}

-- D is 2 ^ 36, but no number over 38 digits is for `omega`; t' is t * u / (D * c) cut off, P' is P * u
module _ (D t t' u f c P P' : ℕ) (e : P' ≡ P * u) where
  low_step : t' * (D * c) ≤ t * u → t * f ≤ D * P → t' * (f * (D * c)) ≤ D * P'
  low_step h k = omega (arith, mul-le-mul_left f h, mul-le-mul_right u k, ap (λ (x : ℕ). D * x) e)

  high-step : t * u < t' * (D * c) + D * c → 2 * u ≤ D * c → D * P ≤ (t + 2) * f → D * P' ≤ (t' + 2) * (f * (D * c))
  high-step h k l = omega (arith, mul-le-mul_left f (le_of_lt h), mul-le-mul_left f k, mul-le-mul_right u l, ap (λ (x : ℕ). D * x) e)

-- the partial sum of two terms
pub num-1 : (n d : ℕ) → num one n d 1 ≡ d + n
unfolding num
num-1 n d = omega (arith, pow-1 n)

module _ (u : ℕ) (h : u ≤ 2 ^ 36) where
  divided : (k : ℕ) → term u (suc k) ≡ term u k * u / (2 ^ 36 * suc (suc k))
  unfolding term
  divided k = ap (λ (x : ℕ). term u k * u / (2 ^ 36 * x)) (add-two k)

  under : (k : ℕ) → term u (suc k) * (2 ^ 36 * suc (suc k)) ≤ term u k * u
  under k = le_trans (le_of_eq (ap (λ (x : ℕ). x * (2 ^ 36 * suc (suc k))) (divided k))) (div-mul-le_self (term u k * u) (2 ^ 36 * suc (suc k)))

  over : (k : ℕ) → term u k * u < term u (suc k) * (2 ^ 36 * suc (suc k)) + 2 ^ 36 * suc (suc k)
  over k = subst (λ (x : ℕ). term u k * u < x * (2 ^ 36 * suc (suc k)) + 2 ^ 36 * suc (suc k)) (sym (divided k)) (lt-div-mul-add {a = term u k * u} {b = 2 ^ 36 * suc (suc k)} (omega arith))

  term-low : (k : ℕ) → term u k * full (2 ^ 36) (suc k) ≤ 2 ^ 36 * u ^ suc k
  unfolding term full
  term-low zero = omega (arith, pow-1 u)
  term-low (suc k) = low_step (2 ^ 36) (term u k) (term u (suc k)) u (full (2 ^ 36) (suc k)) (suc (suc k)) (u ^ suc k) (u ^ suc (suc k)) (pow-suc u (suc k)) (under k) (term-low k)

  term-high : (k : ℕ) → 2 ^ 36 * u ^ suc k ≤ (term u k + 2) * full (2 ^ 36) (suc k)
  unfolding term full
  term-high zero = omega (arith, pow-1 u)
  term-high (suc k) = high-step (2 ^ 36) (term u k) (term u (suc k)) u (full (2 ^ 36) (suc k)) (suc (suc k)) (u ^ suc k) (u ^ suc (suc k)) (pow-suc u (suc k)) (over k) (omega arith) (term-high k)

  sum_low : (k : ℕ) → (2 ^ 36 + sum_to u k) * full (2 ^ 36) (suc k) ≤ 2 ^ 36 * num one u (2 ^ 36) (suc k)
  unfolding sum_to full num
  sum_low zero = omega (arith, pow-1 u)
  sum_low (suc k) = go (2 ^ 36) (sum_to u k) (term u (suc k)) (full (2 ^ 36) (suc k)) (2 ^ 36 * suc (suc k)) (num one u (2 ^ 36) (suc k)) (u ^ suc (suc k)) (sum_low k) (term-low (suc k))
    where
      go : (D s t f c n P : ℕ) → (D + s) * f ≤ D * n → t * (f * c) ≤ D * P → (D + (s + t)) * (f * c) ≤ D * (n * c + 1 * P)
      go D s t f c n P a b = omega (arith, mul-le-mul_right c a, b)

  sum-high : (k : ℕ) → 2 ^ 36 * num one u (2 ^ 36) (suc k) ≤ (2 ^ 36 + sum_to u k + 2 * suc k) * full (2 ^ 36) (suc k)
  unfolding sum_to full num
  sum-high zero = omega (arith, pow-1 u)
  sum-high (suc k) = go (2 ^ 36) (sum_to u k) (term u (suc k)) (full (2 ^ 36) (suc k)) (2 ^ 36 * suc (suc k)) (num one u (2 ^ 36) (suc k)) (u ^ suc (suc k)) (2 * suc k) (2 * suc (suc k)) (omega arith) (sum-high k) (term-high (suc k))
    where
      go : (D s t f c n P w w' : ℕ) → w' ≡ w + 2 → D * n ≤ (D + s + w) * f → D * P ≤ (t + 2) * (f * c) → D * (n * c + 1 * P) ≤ (D + (s + t) + w') * (f * c)
      go D s t f c n P w w' e a b = omega (arith, mul-le-mul_right c a, b, ap (λ (x : ℕ). x * (f * c)) e)

-- e ^ t for t = u / 2 ^ 36, below 1/16
pub rise-enc : (u : ℕ) → u < 2 ^ 32 → Enc u (2 ^ 36) (2 ^ 36 + rise_of u) (2 ^ 36 + rise_of u + 600) (2 ^ 36)
rise-enc u h =
    let b : u ≤ 2 ^ 36 = omega arith in
    enclosed u (2 ^ 36) (2 ^ 36 + rise_of u) (2 ^ 36 + rise_of u + 600) (2 ^ 36) 5 (lit< tt) (omega arith) (sum_low u b 4)
    (go (2 ^ 36) (num one u (2 ^ 36) 5) (u ^ 5) (full (2 ^ 36) 5) (sum_to u 4) (term u 4) (sum-high u b 4) (term-high u b 4) (term-4 u h))
  where
    go : (D n P f s t : ℕ) → D * n ≤ (D + s + 10) * f → D * P ≤ (t + 2) * f → t ≤ 547 → D * (n + P) ≤ (D + s + 600) * f
    go D n P f s t a b c = omega (arith, a, b, mul-le-mul_right f c)
