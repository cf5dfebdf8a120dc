-- Where n * 2 ^ i over d * 2 ^ j has 24 digits before the point, those, rounded, and the exponent k = 149 + j - i are the pattern of n / d rounded.
use mathlib.Core.Path.{◌≡◌, refl, sym, ap, ◌∙◌, subst}
use mathlib.Core.Bool.{Bool, true, false, cond}
use Prim.Native.Nat.{ℕ, suc, ◌+◌, ◌-◌, ◌*◌, ◌/◌, ◌%◌, ◌^◌, ◌≤◌, ◌<◌, compare, Ordering}
use native.Mathlib.Nat.{le_trans, le_of_eq, lt_of_lt_of_le, lt_of_le_of_lt, mul_assoc, mul-pos, mul-le-mul_right, mul-lt-mul_of_pos_right, le_of_mul-le-mul_right, lt_of_mul-lt-mul_right, le-div_iff_mul-le, div-lt_iff_lt-mul}
use native.Mathlib.Omega.{arith}
use lib.Pow.{pow-add, pow_pos, pow-lt}
use lib.Ieee.{Float, binary32, size, nearest, odd, units, round, to_bits}
use lib.Ieee.Exact.{HasValue, units_val}
use lib.Ieee.Fits.{core, round_is, nearest-le}
use lib.Ieee.Nearest.{closest, closest_same, nearest-ge}
use lib.Ieee.Scale.{round_same}
use lib.Dec.{ltb}
use borrow.Author.Tests.{lt-ltb, le-ltb}
use Rattle.figures.specs.Nearest.{nearest as whole_nearest}
use Rattle.rounding.proofs.Cells.{Cmp, cmp}
use Rattle.rounding.proofs.Units.{pattern_of, value-bits}
use Rattle.rounding.proofs.LastDigit.{size_exact}
use Rattle.scalar.proofs.RootPattern.{pattern-at}

-- ---- the two names for a quotient rounded to the nearest whole number
by : (q r c : ℕ) (o : Ordering) → Cmp o (r * 2) c → nearest q o ≡ cond (ltb (2 * r) c) q (cond (ltb c (2 * r)) (q + 1) (q + q % 2))
by q r c Ordering.lt h = rw (lt-ltb (2 * r) c (omega arith))
by q r c Ordering.eq h = rw (le-ltb (2 * r) c (omega arith), le-ltb c (2 * r) (omega arith))
by q r c Ordering.gt h = rw (le-ltb (2 * r) c (omega arith), lt-ltb c (2 * r) (omega arith)) (omega arith)

pub closest-is : (a c : ℕ) → closest a c ≡ whole_nearest a c
unfolding whole_nearest
closest-is a c = by (a / c) (a % c) c (compare (a % c * 2) c) (cmp (a % c * 2) c)

-- ---- the pattern of a value with its sign
signed : (s : Bool) (N p : ℕ) → pattern_of binary32 false N ≡ p → pattern_of binary32 s N ≡ cond s (2 ^ 31) 0 + p
signed true N p e = omega (arith, e)
signed false N p e = omega (arith, e)

-- ---- the digits
pub record Pattern (s : Bool) (n d i j k : ℕ) : Type 0 where
  pub low : 2 ^ 23 ≤ closest (n * 2 ^ i) (d * 2 ^ j)
  pub high : closest (n * 2 ^ i) (d * 2 ^ j) ≤ 2 ^ 24
  pub bits : to_bits binary32 (round binary32 s n d) ≡ cond s (2 ^ 31) 0 + (k * 2 ^ 23 + closest (n * 2 ^ i) (d * 2 ^ j))

module _ (s : Bool) (n d i j k : ℕ) (D : 0 < d) (e : 149 + j ≡ i + k) (lo : 2 ^ 23 * (d * 2 ^ j) ≤ n * 2 ^ i) (hi : n * 2 ^ i < 2 ^ 24 * (d * 2 ^ j)) (small : k < 252) where
  abbrev N : ℕ
  N = n * 2 ^ 149

  abbrev C : ℕ
  C = d * 2 ^ j

  abbrev q : ℕ
  q = closest (n * 2 ^ i) C

  C-pos : 0 < C
  C-pos = mul-pos D (pow_pos j)

  -- 2 ^ 149 * 2 ^ j is 2 ^ i * 2 ^ k
  same : 2 ^ 149 * 2 ^ j ≡ 2 ^ i * 2 ^ k
  same = sym (pow-add 2 149 j) ∙ ap (λ (x : ℕ). 2 ^ x) e ∙ pow-add 2 i k

  moved : N * 2 ^ j ≡ n * 2 ^ i * 2 ^ k
  moved = mul_assoc n (2 ^ 149) (2 ^ j) ∙ ap (λ (x : ℕ). n * x) same ∙ sym (mul_assoc n (2 ^ i) (2 ^ k))

  quot-lo : 2 ^ 23 ≤ n * 2 ^ i / C
  quot-lo = (le-div_iff_mul-le C-pos).1 lo

  quot-hi : n * 2 ^ i / C < 2 ^ 24
  quot-hi = (div-lt_iff_lt-mul C-pos).1 hi

  low : 2 ^ 23 ≤ q
  low = le_trans quot-lo (nearest-ge (n * 2 ^ i / C) (compare (n * 2 ^ i % C * 2) C))

  high : q ≤ 2 ^ 24
  high = le_trans (nearest-le (n * 2 ^ i / C) (compare (n * 2 ^ i % C * 2) C)) quot-hi

  regroup : (x : ℕ) → x * 2 ^ k * d * 2 ^ j ≡ x * C * 2 ^ k
  regroup x = omega arith

  from : 2 ^ (23 + k) * d ≤ N
  from =
      le_of_mul-le-mul_right
      (le_trans (le_of_eq (ap (λ (x : ℕ). x * d * 2 ^ j) (pow-add 2 23 k) ∙ regroup (2 ^ 23))) (le_trans (mul-le-mul_right (2 ^ k) lo) (le_of_eq (sym moved))))
      (pow_pos j)

  to : N < 2 ^ (24 + k) * d
  to =
      lt_of_mul-lt-mul_right (2 ^ j)
      (lt_of_le_of_lt (le_of_eq moved) (lt_of_lt_of_le (mul-lt-mul_of_pos_right hi (pow_pos k)) (le_of_eq (sym (ap (λ (x : ℕ). x * d * 2 ^ j) (pow-add 2 24 k) ∙ regroup (2 ^ 24))))))

  full : 24 + k ≡ suc (23 + k)
  full = omega arith

  dropped : size (N / d) - 24 ≡ k
  dropped =
      ap (λ (x : ℕ). x - 24) (size_exact (23 + k) (N / d) ((le-div_iff_mul-le D).1 from) ((div-lt_iff_lt-mul D).1 (subst (λ (x : ℕ). N < 2 ^ x * d) full to)))
      ∙ omega arith

  cross : N * C ≡ n * 2 ^ i * (d * 2 ^ k)
  cross = left N d (2 ^ j) ∙ ap (λ (x : ℕ). x * d) moved ∙ right (n * 2 ^ i) (2 ^ k) d
    where
      left : (x y z : ℕ) → x * (y * z) ≡ x * z * y
      left x y z = omega arith

      right : (x y z : ℕ) → x * y * z ≡ x * (z * y)
      right x y z = omega arith

  rounded : round binary32 s n d ≡ units binary32 s q k
  rounded =
      round_is binary32 s n d
      ∙ ap (λ (x : ℕ). core binary32 s N d x) dropped
      ∙ ap (λ (x : ℕ). units binary32 s x k) (closest_same N (d * 2 ^ k) (n * 2 ^ i) C (mul-pos D (pow_pos k)) C-pos cross)

  value : HasValue (units binary32 s q k) s (q * 2 ^ k) (2 ^ 149)
  value = units_val binary32 s q k (lt_of_le_of_lt (mul-le-mul_right (2 ^ k) high) (lt_of_le_of_lt (le_of_eq (sym (pow-add 2 24 k))) (pow-lt {j = 277} (omega arith))))

  pub pattern : Pattern s n d i j k
  pattern =
      record {
        low = low;
        high = high;
        bits = ap (λ (x : Float). to_bits binary32 x) rounded ∙ value-bits binary32 (units binary32 s q k) s (q * 2 ^ k) value ∙ signed s (q * 2 ^ k) (k * 2 ^ 23 + q) (pattern-at q k low high);
      }

-- ---- a zero keeps its sign
zero_bits : (s : Bool) → to_bits binary32 (round binary32 s 0 1) ≡ cond s (2 ^ 31) 0
unfolding to_bits round size units odd
zero_bits true = refl
zero_bits false = refl

pub zero_is : (s : Bool) (d : ℕ) → 0 < d → cond s (2 ^ 31) 0 ≡ to_bits binary32 (round binary32 s 0 d)
zero_is s d D = sym (ap (λ (x : Float). to_bits binary32 x) (round_same binary32 s 0 d 0 1 D (omega arith) (omega arith)) ∙ zero_bits s)

-- ---- the rounded quotient has 24 digits, or is 2 ^ 24
pub closest-most : (a c : ℕ) → 0 < c → a < 2 ^ 24 * c → closest a c ≤ 2 ^ 24
closest-most a c C h = le_trans (nearest-le (a / c) (compare (a % c * 2) c)) ((div-lt_iff_lt-mul C).1 h)
