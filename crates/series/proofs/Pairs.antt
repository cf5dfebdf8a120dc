-- Sine and cosine by pairs of terms, for proofs: x is n / d. The terms are a / b, a * n² / (b * d² * K 0), and so on: term k + 1 is term k times n² / (d² * K k).
-- For the sine a / b = n / d and K k = (2 k + 2) * (2 k + 3); for the cosine a / b = 1 / 1 and K k = (2 k + 1) * (2 k + 2).
use mathlib.Core.Path.{◌≡◌}
use Prim.Native.Nat.{ℕ, zero, suc, ◌+◌, ◌*◌, ◌^◌, ◌≤◌, ◌<◌}
use native.Mathlib.Nat.{mul-pos}
use native.Mathlib.Omega.{arith}
use Rattle.series.specs.Series.{Close, Wave, sine, cosine, full, num, class}

-- what j pairs of terms come to, over the one denominator `den`: the terms 0, 2, .., 2 j - 2 are added (`plus`), the terms 1, 3, .., 2 j - 1 are taken off (`minus`).
-- next / den is the term 2 j, the first that is left out.
pub record Sums : Type 0 where
  pub den : ℕ
  pub next : ℕ
  pub plus : ℕ
  pub minus : ℕ

abbrev pub grow : (K : ℕ → ℕ) (n d j : ℕ) → Sums → Sums
grow K n d j s =
    let g = d * d * K (2 * j) in
    let h = d * d * K (2 * j + 1) in
    record {
      den = s.den * (g * h);
      next = s.next * (n * n) * (n * n);
      plus = (s.plus + s.next) * (g * h);
      minus = s.minus * (g * h) + s.next * (n * n) * h;
    }

unfoldable pub sums : (K : ℕ → ℕ) (n d a b : ℕ) → ℕ → Sums
sums K n d a b zero = record { den = b; next = a; plus = 0; minus = 0 }
sums K n d a b (suc j) = grow K n d j (sums K n d a b j)

-- Every partial sum from the one with 2 * j terms on is that close, and so is their limit
pub record Limit (K : ℕ → ℕ) (n d a b j m r t u : ℕ) : Type 0 where
  pub even : (i : ℕ) → j ≤ i → Close m r t u (sums K n d a b i).plus (sums K n d a b i).minus (sums K n d a b i).den
  pub odd : (i : ℕ) → j ≤ i → Close m r t u ((sums K n d a b i).plus + (sums K n d a b i).next) (sums K n d a b i).minus (sums K n d a b i).den

abbrev pub Ksin : ℕ → ℕ
Ksin k = (2 * k + 2) * (2 * k + 3)

abbrev pub Kcos : ℕ → ℕ
Kcos k = (2 * k + 1) * (2 * k + 2)

-- both at once: o is 1 for the sine and 0 for the cosine
abbrev pub Kat : ℕ → ℕ → ℕ
Kat o k = (2 * k + (o + 1)) * (2 * k + (o + 2))

-- the exponent of the first term
abbrev pub shift : Wave → ℕ
shift sine = 1
shift cosine = 0

-- the first term at n / d is start n / start d
abbrev pub start : Wave → ℕ → ℕ
start sine n = n
start cosine n = 1

-- ---- j pairs of terms are the terms of the exponential series up to number 4 j, by their classes modulo 4
-- the sums s at n / d and those up to number k, as fractions: what is added, what is taken off, and the next term
pub record SinSame (n d k : ℕ) (s : Sums) : Type 0 where
  pub plus : s.plus * full d k ≡ num (class 1) n d k * s.den
  pub minus : s.minus * full d k ≡ num (class 3) n d k * s.den
  pub next : s.next * full d (suc k) ≡ n ^ suc k * s.den

-- the classes of the cosine have one term more at 4 j
pub record CosSame (n d k : ℕ) (s : Sums) : Type 0 where
  pub plus : (s.plus + s.next) * full d k ≡ num (class 0) n d k * s.den
  pub minus : s.minus * full d k ≡ num (class 2) n d k * s.den
  pub next : s.next * full d k ≡ n ^ k * s.den

-- ---- the denominators are above 0
pub den_pos : (K : ℕ → ℕ) → ((k : ℕ) → 0 < K k) → (n d a b : ℕ) → 0 < d → 0 < b → (j : ℕ) → 0 < (sums K n d a b j).den
unfolding sums
den_pos K P n d a b D B zero = B
den_pos K P n d a b D B (suc j) = mul-pos (den_pos K P n d a b D B j) (mul-pos (mul-pos (mul-pos D D) (P (2 * j))) (mul-pos (mul-pos D D) (P (2 * j + 1))))

pub sin-pos : (k : ℕ) → 0 < Ksin k
sin-pos k = omega arith

pub cos-pos : (k : ℕ) → 0 < Kcos k
cos-pos k = omega arith
