-- The power series of e ^ x, and by classes modulo 4 of its terms those of sine and cosine, as fractions of whole numbers: x is n / d. Definitions only.
use Rattle.std.specs.Prelude.{ℕ, zero, suc, ◌+◌, ◌*◌, ◌^◌, ◌≤◌}

-- ---- the exponential series, its term of number k weighted by c k (by 1 for e ^ x itself): the terms up to number k come to num c n d k / full d k, with full d k = d ^ k * k!
unfoldable pub full : (d : ℕ) → ℕ → ℕ
full d zero = 1
full d (suc k) = full d k * (d * suc k)

unfoldable pub num : (c : ℕ → ℕ) (n d : ℕ) → ℕ → ℕ
num c n d zero = c 0
num c n d (suc k) = num c n d k * (d * suc k) + c (suc k) * n ^ suc k

-- 1 at the k that leave r modulo 4 (r from 0 to 3), 0 elsewhere: sin x = Σ c1 - Σ c3, cos x = Σ c0 - Σ c2 of x ^ k / k!
unfoldable pub class : ℕ → ℕ → ℕ
class zero zero = 1
class (suc r) zero = 0
class zero (suc k) = class 3 k
class (suc r) (suc k) = class r k

-- ---- what is said of all later partial sums, and so of the limit
abbrev pub Later : (ℕ → Type 0) → Type 0
Later P = (N : ℕ) × ((k : ℕ) → N ≤ k → P k)

-- sin (y / d) ≤ (n / c) * cos (y / d), and ≥
abbrev pub SinLe : (y d n c : ℕ) → Type 0
SinLe y d n c = Later (λ k. num (class 1) y d k * c + num (class 2) y d k * n ≤ num (class 3) y d k * c + num (class 0) y d k * n)

abbrev pub SinGe : (y d n c : ℕ) → Type 0
SinGe y d n c = Later (λ k. num (class 3) y d k * c + num (class 0) y d k * n ≤ num (class 1) y d k * c + num (class 2) y d k * n)

-- sin (y / d) ≤ n / c, and ≥
abbrev pub SineAtMost : (y d n c : ℕ) → Type 0
SineAtMost y d n c = Later (λ k. num (class 1) y d k * c ≤ num (class 3) y d k * c + n * full d k)

abbrev pub SineAtLeast : (y d n c : ℕ) → Type 0
SineAtLeast y d n c = Later (λ k. num (class 3) y d k * c + n * full d k ≤ num (class 1) y d k * c)

-- cos (y / d) ≥ 0, and ≤ 0
abbrev pub CosineNotNegative : (y d : ℕ) → Type 0
CosineNotNegative y d = Later (λ k. num (class 2) y d k ≤ num (class 0) y d k)

abbrev pub CosineNotPositive : (y d : ℕ) → Type 0
CosineNotPositive y d = Later (λ k. num (class 0) y d k ≤ num (class 2) y d k)

-- every weight 1: e ^ x itself
abbrev pub one : ℕ → ℕ
one k = 1

-- e ^ (n / d) ≤ a / b, and a / b ≤ e ^ (n / d)
abbrev pub ExpLe : (n d a b : ℕ) → Type 0
ExpLe n d a b = (k : ℕ) → num one n d k * b ≤ a * full d k

abbrev pub ExpGe : (n d a b : ℕ) → Type 0
ExpGe n d a b = (k : ℕ) × (a * full d k ≤ num one n d k * b)

-- ---- nearness
-- A partial sum (p - q) / c is at most u / m from the number (r - t) / m, where one of r and t is 0
pub record Close (m r t u p q c : ℕ) : Type 0 where
  pub low : r * c + m * q ≤ m * p + (t + u) * c
  pub high : m * p + t * c ≤ m * q + (r + u) * c

-- ---- which of the two
pub data Wave : Type 0 where
  sine : Wave
  cosine : Wave
