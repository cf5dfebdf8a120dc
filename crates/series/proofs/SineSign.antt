-- Up to 2 the third class is at most two thirds of the first, term by term, since x² / ((k + 1) (k + 2)) is: so the sine is positive there, and at least a third of the first class.
use mathlib.Core.Path.{◌≡◌, refl, sym, ap, ◌∙◌, subst}
use Prim.Native.Nat.{ℕ, zero, suc, ◌+◌, ◌*◌, ◌^◌, ◌≤◌, ◌<◌}
use native.Mathlib.Nat.{le_trans, mul-le-mul_left, mul-le-mul_right, le_of_mul-le-mul_right, pow-suc}
use native.Mathlib.Omega.{arith}
use native.Mathlib.Numerals.{add-two}
use Rattle.series.specs.Series.{full, num, class}
use Rattle.series.proofs.Terms.{num-suc, square-le}
use Rattle.series.proofs.Addition.{full-pos}
use Rattle.series.proofs.Weighted.{grows}
use Rattle.series.proofs.SmallAngle.{class-le}

class-shift : (k : ℕ) → class 3 (suc (suc k)) ≡ class 1 k
unfolding class
class-shift k = refl

first_two : (n d : ℕ) → num (class 3) n d 2 ≡ 0
unfolding num class
first_two n d = omega arith

full-two : (d k : ℕ) → full d (suc (suc k)) ≡ full d k * (d * suc k) * (d * suc (suc k))
unfolding full
full-two d k = refl

module _ (n d : ℕ) (D : 0 < d) (small : n ≤ 2 * d) where
  -- the third class two terms later
  later : (k : ℕ) → 3 * num (class 3) n d (suc (suc k)) ≤ 2 * (num (class 1) n d k * (d * suc k) * (d * suc (suc k)))
  later zero = subst (λ (x : ℕ). 3 * x ≤ 2 * (num (class 1) n d 0 * (d * 1) * (d * 2))) (sym (first_two n d)) (omega arith)
  later (suc k) =
      step (num (class 3) n d (suc (suc k))) (num (class 3) n d (suc (suc (suc k)))) (num (class 1) n d k) (num (class 1) n d (suc k)) (class 1 (suc k)) (n ^ suc k) (n ^ suc (suc (suc k))) k
      (later k) (num-suc (class 3) n d (suc (suc k)) ∙ ap (λ (x : ℕ). num (class 3) n d (suc (suc k)) * (d * suc (suc (suc k))) + x * n ^ suc (suc (suc k))) (class-shift (suc k))) (num-suc (class 1) n d k)
      (pow-suc n (suc (suc k)) ∙ ap (λ (x : ℕ). x * n) (pow-suc n (suc k)))
    where
      step : (a a' b b' t p p' k : ℕ) → 3 * a ≤ 2 * (b * (d * suc k) * (d * suc (suc k))) → a' ≡ a * (d * suc (suc (suc k))) + t * p' → b' ≡ b * (d * suc k) + t * p → p' ≡ p * n * n
          → 3 * a' ≤ 2 * (b' * (d * suc (suc k)) * (d * suc (suc (suc k))))
      step a a' b b' t p p' k h e f g =
          let x = d * suc (suc (suc k)) in
          let y = d * suc (suc k) in
          let z : 3 * (t * p') ≤ 12 * (t * p * (d * d)) = omega (arith, mul-le-mul_left t (le_trans (eq g) (mul-le-mul_left p (square-le n d small)))) in
          final a a' b b' (t * p) (t * p') (d * suc k) y x h e f z (factors k)
        where
          eq : p' ≡ p * n * n → p' ≤ p * (n * n)
          eq g = omega arith

          factors : (k : ℕ) → 12 * (d * d) ≤ 2 * (d * suc (suc k) * (d * suc (suc (suc k))))
          factors k = omega arith

          final : (a a' b b' u u' w y x : ℕ) → 3 * a ≤ 2 * (b * w * y) → a' ≡ a * x + u' → b' ≡ b * w + u → 3 * u' ≤ 12 * (u * (d * d)) → 12 * (d * d) ≤ 2 * (y * x) → 3 * a' ≤ 2 * (b' * y * x)
          final a a' b b' u u' w y x h e f z m = omega (arith, mul-le-mul_right x h, ap (λ (s : ℕ). s * (y * x)) f, mul-le-mul_left u m)

  pub thirds : (k : ℕ) → 3 * num (class 3) n d (suc (suc k)) ≤ 2 * num (class 1) n d (suc (suc k))
  thirds k =
      le_of_mul-le-mul_right {k = full d k}
      (go (num (class 3) n d (suc (suc k))) (num (class 1) n d k) (num (class 1) n d (suc (suc k))) (full d k) (d * suc k) (d * suc (suc k)) (later k)
      (subst (λ (f : ℕ). num (class 1) n d k * f ≤ num (class 1) n d (suc (suc k)) * full d k) (full-two d k) (subst (λ (j : ℕ). num (class 1) n d k * full d j ≤ num (class 1) n d j * full d k) (add-two k) (grows (class 1) (class-le 1) n d k 2))))
      (full-pos d k D)
    where
      go : (a b b' F w y : ℕ) → 3 * a ≤ 2 * (b * w * y) → b * (F * w * y) ≤ b' * F → 3 * a * F ≤ 2 * b' * F
      go a b b' F w y h g = omega (arith, mul-le-mul_right F h)
