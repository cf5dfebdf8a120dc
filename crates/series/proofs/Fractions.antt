-- A power series sees only the value of its fraction: with n * q / (d * q) for n / d every partial sum has its numerator and denominator multiplied by one power of q.
use mathlib.Core.Path.{◌≡◌, sym, ap, ap₂, ◌∙◌}
use Prim.Native.Nat.{ℕ, zero, suc, ◌+◌, ◌*◌, ◌^◌, ◌≤◌}
use native.Mathlib.Nat.{mul-one, pow-suc, pow-zero, le_refl, add-le-add, mul-le-mul_left, mul-le-mul_right, pow-le-pow_left}
use native.Mathlib.Omega.{arith}
use Rattle.std.proofs.lemmas.Nat.{mul-pow}
use Rattle.series.specs.Series.{full, num}

pub full-scale : (d q k : ℕ) → full (d * q) k ≡ full d k * q ^ k
unfolding full
full-scale d q zero = sym (ap (λ (x : ℕ). 1 * x) (pow-zero q))
full-scale d q (suc k) = ap (λ (x : ℕ). x * (d * q * suc k)) (full-scale d q k) ∙ go (full d k) (q ^ k) (suc k) ∙ ap (λ (x : ℕ). full d k * (d * suc k) * x) (sym (pow-suc q k))
  where
    go : (x y s : ℕ) → x * y * (d * q * s) ≡ x * (d * s) * (y * q)
    go x y s = omega arith

pub num-scale : (c : ℕ → ℕ) (n d q k : ℕ) → num c (n * q) (d * q) k ≡ num c n d k * q ^ k
unfolding num
num-scale c n d q zero = sym (ap (λ (x : ℕ). c 0 * x) (pow-zero q) ∙ mul-one (c 0))
num-scale c n d q (suc k) =
    ap₂ (λ (x y : ℕ). x * (d * q * suc k) + c (suc k) * y) (num-scale c n d q k) (mul-pow n q (suc k) ∙ ap (λ (x : ℕ). n ^ suc k * x) (pow-suc q k))
    ∙ go (num c n d k) (q ^ k) (suc k) (c (suc k)) (n ^ suc k) ∙ ap (λ (x : ℕ). (num c n d k * (d * suc k) + c (suc k) * n ^ suc k) * x) (sym (pow-suc q k))
  where
    go : (x y s e p : ℕ) → x * y * (d * q * s) + e * (p * (y * q)) ≡ (x * (d * s) + e * p) * (y * q)
    go x y s e p = omega arith

-- a larger numerator
pub num-mono : (c : ℕ → ℕ) (n n' d k : ℕ) → n ≤ n' → num c n d k ≤ num c n' d k
unfolding num
num-mono c n n' d zero h = le_refl (c 0)
num-mono c n n' d (suc k) h = add-le-add (mul-le-mul_right (d * suc k) (num-mono c n n' d k h)) (mul-le-mul_left (c (suc k)) (pow-le-pow_left h (suc k)))
