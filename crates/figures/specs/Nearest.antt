-- The nearest whole number, an exact half to the even one, and the exact product of a number and a whole number so rounded.
use Rattle.std.specs.Prelude.{ℕ, ◌+◌, ◌*◌, ◌/◌, ◌%◌, ◌^◌, ◌≤◌, ◌<◌, min, ◌≡◌, cond, ltb, Float}
use Rattle.std.specs.Float.{nan, inf, fin}
use Rattle.std.specs.Float.Ieee.{up, down}
use Rattle.rounding.specs.TiesToEven.{gap}

-- n / d, for a d above 0, by what is left over: under half of d it is dropped, over half it counts as one more, and at the half the even one of the two is taken
unfoldable pub nearest : ℕ → ℕ → ℕ
nearest n d = let q = n / d in let rest = n % d in cond (ltb (2 * rest) d) q (cond (ltb d (2 * rest)) (q + 1) (q + q % 2))

-- What the words ask for: r is within half of n / d, and where it is a half away it is even.
pub record HalfToEven (n d r : ℕ) : Type 0 where
  pub within : 2 * gap (r * d) n ≤ d
  pub even : 2 * gap (r * d) n ≡ d → r % 2 ≡ 0

-- `nearest` is such a number, and no other is.
pub record NearestRule : Type 0 where
  pub is : (n d : ℕ) → 0 < d → HalfToEven n d (nearest n d)
  pub only : (n d r : ℕ) → 0 < d → HalfToEven n d r → r ≡ nearest n d

-- one more than the largest u32
abbrev pub past : ℕ
past = 2 ^ 32

-- k times the size of a number, an exact product, rounded to the nearest whole number: `fin s m e` is m * 2 ^ e, which is m * up e / down e. `past` stands for every number that is not a u32, and for NaN and the infinities.
unfoldable pub times_of : ℕ → Float → ℕ
times_of k nan = past
times_of k (inf s) = past
times_of k (fin s m e) = min (nearest (k * m * up e) (down e)) past
