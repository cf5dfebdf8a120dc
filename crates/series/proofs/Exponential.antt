-- Fractions that enclose e ^ x: x = n / d, and lo / m ≤ e ^ x ≤ hi / m. The lower one is below a partial sum, and the upper one above all of them.
use mathlib.Core.Bool.{Bool, ◌&&◌}
use Prim.Native.Nat.{ℕ, suc, ◌+◌, ◌*◌, ◌^◌, ◌≤◌, ◌<◌}
use native.Mathlib.Nat.{le_refl, mul-le-mul, mul-le-mul_left, mul-le-mul_right, mul-pos, le_of_mul-le-mul_right}
use native.Mathlib.Omega.{arith}
use lib.Dec.{T, leb, leb→le}
use lib.Ieee.Fits.{and_l, and_r}
use Rattle.series.specs.Series.{full, num, one}
use Rattle.series.proofs.Addition.{full-pos, exp-under, exp-over}
use Rattle.series.proofs.Weighted.{above}

pub record Enc (n d lo hi m : ℕ) : Type 0 where
  pub at : ℕ
  pub low : lo * full d at ≤ m * num one n d at
  pub high : (k : ℕ) → m * num one n d k ≤ hi * full d k

-- a test at one N encloses e ^ x
pub enclosed : (n d lo hi m N : ℕ) → 0 < d → 2 * n ≤ d * suc N → lo * full d N ≤ m * num one n d N → m * (num one n d N + n ^ N) ≤ hi * full d N → Enc n d lo hi m
enclosed n d lo hi m N D h a b = record { at = N; low = a; high = above one (λ k. le_refl 1) n d hi m N D h b }

-- ---- e ^ (x + y) = e ^ x * e ^ y
pub times : (a b d lo hi m lo' hi' m' : ℕ) → 0 < d → Enc a d lo hi m → Enc b d lo' hi' m' → Enc (a + b) d (lo * lo') (hi * hi') (m * m')
times a b d lo hi m lo' hi' m' D A B =
    record {
      at = A.at + B.at;
      low = go (full d A.at) (full d B.at) (full d (A.at + B.at)) (num one a d A.at) (num one b d B.at) (num one (a + b) d (A.at + B.at)) (full-pos d A.at D) (full-pos d B.at D) A.low B.low (exp-over a b d D A.at B.at);
      high = λ k. up (full d k) (num one a d k) (num one b d k) (num one (a + b) d k) (full-pos d k D) (A.high k) (B.high k) (exp-under a b d D k);
    }
  where
    go : (f g F x y s : ℕ) → 0 < f → 0 < g → lo * f ≤ m * x → lo' * g ≤ m' * y → x * y * F ≤ s * (f * g) → lo * lo' * F ≤ m * m' * s
    go f g F x y s P Q p q r =
        le_of_mul-le-mul_right {k = f * g} (omega (arith, mul-le-mul_right F (mul-le-mul p q), mul-le-mul_left (m * m') r)) (mul-pos P Q)

    up : (f x y s : ℕ) → 0 < f → m * x ≤ hi * f → m' * y ≤ hi' * f → s * f ≤ x * y → m * m' * s ≤ hi * hi' * f
    up f x y s P p q r = le_of_mul-le-mul_right {k = f} (omega (arith, mul-le-mul p q, mul-le-mul_left (m * m') r)) P

-- ---- e ^ x = e ^ (x + y) / e ^ y
pub over : (a b d lo hi m lo' hi' m' : ℕ) → 0 < d → Enc (a + b) d lo hi m → Enc b d lo' hi' m' → Enc a d (lo * m' * lo') (hi * m' * hi') (m * hi' * lo')
over a b d lo hi m lo' hi' m' D A B =
    record {
      at = A.at;
      low = go (full d A.at) (num one a d A.at) (num one b d A.at) (num one (a + b) d A.at) (full-pos d A.at D) A.low (B.high A.at) (exp-under a b d D A.at);
      high = λ k. up (full d k) (full d B.at) (full d (k + B.at)) (num one a d k) (num one b d B.at) (num one (a + b) d (k + B.at)) (full-pos d B.at D) (full-pos d (k + B.at) D) (A.high (k + B.at)) B.low (exp-over a b d D k B.at);
    }
  where
    go : (F x y s : ℕ) → 0 < F → lo * F ≤ m * s → m' * y ≤ hi' * F → s * F ≤ x * y → lo * m' * lo' * F ≤ m * hi' * lo' * x
    go F x y s P p q r =
        let u : lo * m' * F ≤ m * hi' * x = le_of_mul-le-mul_right {k = F} (omega (arith, mul-le-mul_right (m' * F) p, mul-le-mul_left (m * m') r, mul-le-mul_left (m * x) q)) P in
        omega (arith, mul-le-mul_right lo' u)

    up : (f g F x y s : ℕ) → 0 < g → 0 < F → m * s ≤ hi * F → lo' * g ≤ m' * y → x * y * F ≤ s * (f * g) → m * hi' * lo' * x ≤ hi * m' * hi' * f
    up f g F x y s G P p q r =
        let u : m * (x * y) ≤ hi * (f * g) = le_of_mul-le-mul_right {k = F} (omega (arith, mul-le-mul_left m r, mul-le-mul_right (f * g) p)) P in
        let v : m * lo' * x ≤ hi * m' * f = le_of_mul-le-mul_right {k = g} (omega (arith, mul-le-mul_left (m * x) q, mul-le-mul_left m' u)) G in
        omega (arith, mul-le-mul_right hi' v)

-- ---- tests
unfoldable pub ok : ℕ → ℕ → ℕ → ℕ → ℕ → ℕ → Bool
ok n d lo hi m N = leb (2 * n) (d * suc N) && (leb (lo * full d N) (m * num one n d N) && leb (m * (num one n d N + n ^ N)) (hi * full d N))

pub tested : (n d lo hi m N : ℕ) → 0 < d → T (ok n d lo hi m N) → Enc n d lo hi m
unfolding ok
tested n d lo hi m N D t =
    let A = leb (lo * full d N) (m * num one n d N) in
    let B = leb (m * (num one n d N + n ^ N)) (hi * full d N) in
    let u = and_r (leb (2 * n) (d * suc N)) (A && B) t in
    enclosed n d lo hi m N D (leb→le (2 * n) (d * suc N) (and_l (leb (2 * n) (d * suc N)) (A && B) t)) (leb→le (lo * full d N) (m * num one n d N) (and_l A B u)) (leb→le (m * (num one n d N + n ^ N)) (hi * full d N) (and_r A B u))

-- e, to 60 places
pub e₁ : Enc 1 1 3133965575612453542 3133965575612453543 (2 ^ 60)
unfolding ok num full
e₁ = tested 1 1 3133965575612453542 3133965575612453543 (2 ^ 60) 25 (omega arith) tt
