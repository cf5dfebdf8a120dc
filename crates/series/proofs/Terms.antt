-- The first powers, one term more of a partial sum, and a square.
use mathlib.Core.Path.{◌≡◌, refl, ap, ◌∙◌}
use Prim.Native.Nat.{ℕ, suc, ◌+◌, ◌*◌, ◌^◌, ◌≤◌}
use native.Mathlib.Nat.{pow-suc, pow-zero, one-mul, mul-le-mul}
use native.Mathlib.Omega.{arith}
use Rattle.series.specs.Series.{full, num}

pub pow-1 : (w : ℕ) → w ^ 1 ≡ w
pow-1 w = pow-suc w 0 ∙ ap (λ (x : ℕ). x * w) (pow-zero w) ∙ one-mul w

pub pow-2 : (w : ℕ) → w ^ 2 ≡ w * w
pow-2 w = pow-suc w 1 ∙ ap (λ (x : ℕ). x * w) (pow-1 w)

pub pow-3 : (w : ℕ) → w ^ 3 ≡ w * w * w
pow-3 w = pow-suc w 2 ∙ ap (λ (x : ℕ). x * w) (pow-2 w)

pub pow-4 : (w : ℕ) → w ^ 4 ≡ w * w * w * w
pow-4 w = pow-suc w 3 ∙ ap (λ (x : ℕ). x * w) (pow-3 w)

pub pow-5 : (w : ℕ) → w ^ 5 ≡ w * w * w * w * w
pow-5 w = pow-suc w 4 ∙ ap (λ (x : ℕ). x * w) (pow-4 w)

pub full-1 : (d : ℕ) → full d 1 ≡ d
unfolding full
full-1 d = omega arith

pub full-suc : (d k : ℕ) → full d (suc k) ≡ full d k * (d * suc k)
unfolding full
full-suc d k = refl

pub num-suc : (c : ℕ → ℕ) (n d k : ℕ) → num c n d (suc k) ≡ num c n d k * (d * suc k) + c (suc k) * n ^ suc k
unfolding num
num-suc c n d k = refl

-- up to 2
pub square-le : (x d : ℕ) → x ≤ 2 * d → x * x ≤ 4 * (d * d)
square-le x d h = omega (arith, mul-le-mul h h)
