-- Fractions that enclose e ^ -x: x = n / d, and lo / m ≤ e ^ -x ≤ hi / m, by the reciprocals of partial sums of e ^ x.
use mathlib.Core.Path.{subst}
use Prim.Native.Nat.{ℕ, ◌+◌, ◌*◌, ◌≤◌, ◌<◌}
use native.Mathlib.Nat.{le_trans, le_refl, le_dest, mul-le-mul_left, mul-le-mul_right, le_of_mul-le-mul_right}
use native.Mathlib.Omega.{arith}
use Rattle.series.specs.Series.{full, num, one}
use Rattle.series.proofs.Addition.{full-pos, exp-under, exp-over}
use Rattle.series.proofs.Weighted.{grows}
use Rattle.series.proofs.Exponential.{Enc}

pub record Rec (n d lo hi m : ℕ) : Type 0 where
  pub low : (k : ℕ) → lo * num one n d k ≤ m * full d k
  pub at : ℕ
  pub high : m * full d at ≤ hi * num one n d at

pub slacken : (n d lo hi m lo' hi' : ℕ) → lo' ≤ lo → hi ≤ hi' → Rec n d lo hi m → Rec n d lo' hi' m
slacken n d lo hi m lo' hi' l h R =
    record { low = λ k. le_trans (mul-le-mul_right (num one n d k) l) (R.low k); at = R.at; high = le_trans R.high (mul-le-mul_right (num one n d R.at) h) }

-- e ^ -a = e ^ -(a + b) * e ^ b
pub quotient : (a b d lo hi m lo' hi' m' : ℕ) → 0 < d → Rec (a + b) d lo hi m → Enc b d lo' hi' m' → Rec a d (lo * lo') (hi * hi') (m * m')
quotient a b d lo hi m lo' hi' m' D R B =
    record {
      low = λ k. down (full d k) (full d B.at) (full d (k + B.at)) (num one a d k) (num one b d B.at) (num one (a + b) d (k + B.at)) (full-pos d B.at D) (full-pos d (k + B.at) D) (R.low (k + B.at)) B.low (exp-over a b d D k B.at);
      at = R.at;
      high = up (full d R.at) (num one a d R.at) (num one b d R.at) (num one (a + b) d R.at) (full-pos d R.at D) R.high (B.high R.at) (exp-under a b d D R.at);
    }
  where
    down : (f g F x y s : ℕ) → 0 < g → 0 < F → lo * s ≤ m * F → lo' * g ≤ m' * y → x * y * F ≤ s * (f * g) → lo * lo' * x ≤ m * m' * f
    down f g F x y s G P p q r =
        let u : lo * (x * y) ≤ m * (f * g) = le_of_mul-le-mul_right {k = F} (omega (arith, mul-le-mul_left lo r, mul-le-mul_right (f * g) p)) P in
        le_of_mul-le-mul_right {k = g} (omega (arith, mul-le-mul_left (lo * x) q, mul-le-mul_left m' u)) G

    up : (F x y s : ℕ) → 0 < F → m * F ≤ hi * s → m' * y ≤ hi' * F → s * F ≤ x * y → m * m' * F ≤ hi * hi' * x
    up F x y s P p q r =
        le_of_mul-le-mul_right {k = F} (omega (arith, mul-le-mul_right (m' * F) p, mul-le-mul_left (hi * m') r, mul-le-mul_left (hi * x) q)) P

-- the upper bound holds of every later number too
pub high-later : (n d lo hi m : ℕ) → 0 < d → (R : Rec n d lo hi m) → (k : ℕ) → R.at ≤ k → m * full d k ≤ hi * num one n d k
high-later n d lo hi m D R k l =
    let o = le_dest l in
    go (full d R.at) (num one n d R.at) (full d k) (num one n d k) (full-pos d R.at D) R.high
    (subst (λ (y : ℕ). num one n d R.at * full d y ≤ num one n d y * full d R.at) o.1 (grows one (λ (j : ℕ). le_refl 1) n d R.at o.0))
  where
    go : (f x g y : ℕ) → 0 < f → m * f ≤ hi * x → x * g ≤ y * f → m * g ≤ hi * y
    go f x g y F p q = le_of_mul-le-mul_right {k = f} (omega (arith, mul-le-mul_right g p, mul-le-mul_left hi q)) F
