-- The terms of the power series fall below every fraction, since from twice the argument on each is at most half the one before.
use mathlib.Core.Path.{◌≡◌, ap₂, ◌∙◌, subst}
use Prim.Native.Nat.{ℕ, zero, suc, ◌+◌, ◌*◌, ◌^◌, ◌≤◌, ◌<◌}
use native.Mathlib.Nat.{le_trans, le_of_eq, le_dest, add-zero, add-suc, mul_comm, mul-le-mul, mul-le-mul_left, mul-le-mul_right, le_of_mul-le-mul_right, pow-suc, mul_assoc}
use native.Mathlib.Omega.{arith}
use lib.Pow.{pow_pos}
use Rattle.series.specs.Series.{full}
use Rattle.series.proofs.Addition.{full-pos}

below_power : (k : ℕ) → k ≤ 2 ^ k
below_power zero = omega arith
below_power (suc k) = omega (arith, below_power k, pow-suc 2 k, pow_pos k)

module _ (n d M : ℕ) (D : 0 < d) where
  abbrev A : ℕ
  A = 2 * n

  abbrev C : ℕ
  C = M * n ^ A

  halved : (k : ℕ) → A ≤ k → 2 * n ≤ d * suc k
  halved k h = le_trans (le_trans h (omega arith)) (mul-le-mul_right (suc k) D)

  halving : (o : ℕ) → M * n ^ (A + o) * 2 ^ o ≤ C * full d (A + o)
  unfolding full
  halving zero = rw add-zero (start (M * n ^ A) (full d A) (full-pos d A D))
    where
      start : (x f : ℕ) → 0 < f → x * 2 ^ 0 ≤ x * f
      start x f p = mul-le-mul_left x p
  halving (suc o) =
      rw add-suc (go (n ^ (A + o)) (n ^ suc (A + o)) (2 ^ o) (2 ^ suc o) (full d (A + o)) (d * suc (A + o)) (pow-suc n (A + o)) (pow-suc 2 o) (halved (A + o) (omega arith)) (halving o))
    where
      go : (p p' t t' f c : ℕ) → p' ≡ p * n → t' ≡ t * 2 → 2 * n ≤ c → M * p * t ≤ C * f → M * p' * t' ≤ C * (f * c)
      go p p' t t' f c e g h k =
          le_trans (le_of_eq (ap₂ (λ (x y : ℕ). M * x * y) e g ∙ turn M p n t)) (le_trans (mul-le-mul k h) (le_of_eq (mul_assoc C f c)))
        where
          turn : (M p n t : ℕ) → M * (p * n) * (t * 2) ≡ M * p * t * (2 * n)
          turn M p n t = omega arith

  small_at : (o : ℕ) → C ≤ o → M * n ^ (A + o) ≤ full d (A + o)
  small_at o h = le_of_mul-le-mul_right {k = 2 ^ o} (le_trans (halving o) (le_trans (mul-le-mul_right (full d (A + o)) (le_trans h (below_power o))) (le_of_eq (mul_comm (2 ^ o) (full d (A + o)))))) (pow_pos o)

  -- from number 2 n + M * n ^ (2 n) on
  pub small : (k : ℕ) → A + C ≤ k → (2 * n ≤ d * suc k) × (M * n ^ k ≤ full d k)
  small k h =
      let a : A ≤ k = omega arith in
      let o = le_dest a in
      (halved k a, subst (λ (j : ℕ). M * n ^ j ≤ full d j) o.1 (small_at o.0 (omega (arith, o.1))))
