-- Every angle A / 2 ^ 56 up to 2 has its four classes enclosed within two units of 1 / M, as sharp as one likes: N terms are enough where M * 2 ^ N is at most N!.
use Prim.Native.Nat.{ℕ, suc, ◌+◌, ◌*◌, ◌/◌, ◌^◌, ◌≤◌, ◌<◌}
use native.Mathlib.Nat.{le_trans, div-mul-le_self, lt-div-mul-add, mul-le-mul_left, pow-le-pow_left}
use native.Mathlib.Omega.{arith}
use lib.Dec.{lit≤}
use lib.Pow.{pow_pos}
use Rattle.series.specs.Series.{full, num, class}
use Rattle.series.proofs.Addition.{full-pos}
use Rattle.series.proofs.Weighted.{above}
use Rattle.series.proofs.Waves.{Enc4}
use Rattle.series.proofs.SmallAngle.{class-le}

-- the class r at A / 2 ^ 56, cut off after the term of number N, in units of 1 / M
unfoldable pub portion : (M N r A : ℕ) → ℕ
unfolding num full class
portion M N r A = M * num (class r) A (2 ^ 56) N / full (2 ^ 56) N

module _ (M N : ℕ) where
  pub portion-low : (r A : ℕ) → portion M N r A * full (2 ^ 56) N ≤ M * num (class r) A (2 ^ 56) N
  unfolding portion
  portion-low r A = div-mul-le_self (M * num (class r) A (2 ^ 56) N) (full (2 ^ 56) N)

  pub portion-next : (r A : ℕ) → M * num (class r) A (2 ^ 56) N < portion M N r A * full (2 ^ 56) N + full (2 ^ 56) N
  unfolding portion
  portion-next r A = lt-div-mul-add (full-pos (2 ^ 56) N (pow_pos 56))

  module _ (wide : 3 ≤ N) (enough : M * (2 ^ 57) ^ N ≤ full (2 ^ 56) N) (A : ℕ) (small : A ≤ 2 ^ 57) where
    tail : M * A ^ N ≤ full (2 ^ 56) N
    tail = le_trans (mul-le-mul_left M (pow-le-pow_left small N)) enough

    halves : 2 * A ≤ 2 ^ 56 * suc N
    halves = omega arith

    high : (r k : ℕ) → M * num (class r) A (2 ^ 56) k ≤ (portion M N r A + 2) * full (2 ^ 56) k
    high r = above (class r) (class-le r) A (2 ^ 56) (portion M N r A + 2) M N (pow_pos 56) halves (go M (num (class r) A (2 ^ 56) N) (A ^ N) (full (2 ^ 56) N) (portion M N r A) (portion-next r A) tail)
      where
        go : (m n t F p : ℕ) → m * n < p * F + F → m * t ≤ F → m * (n + t) ≤ (p + 2) * F
        go m n t F p a b = omega (arith, a, b)

    pub sharp-to : Enc4 A (2 ^ 56) M (portion M N 0 A) (portion M N 1 A) (portion M N 2 A) (portion M N 3 A) (portion M N 0 A + 2) (portion M N 1 A + 2) (portion M N 2 A + 2) (portion M N 3 A + 2)
    sharp-to =
        record {
          at = N;
          low0 = portion-low 0 A;
          low1 = portion-low 1 A;
          low2 = portion-low 2 A;
          low3 = portion-low 3 A;
          high0 = high 0;
          high1 = high 1;
          high2 = high 2;
          high3 = high 3;
        }

-- in units of 2 ^ -62, by thirty terms
abbrev pub part : ℕ → ℕ → ℕ
part r A = portion (2 ^ 62) 29 r A

enough-29 : 2 ^ 62 * (2 ^ 57) ^ 29 ≤ full (2 ^ 56) 29
unfolding full
enough-29 = lit≤ tt

pub sharp : (A : ℕ) → A ≤ 2 ^ 57 → Enc4 A (2 ^ 56) (2 ^ 62) (part 0 A) (part 1 A) (part 2 A) (part 3 A) (part 0 A + 2) (part 1 A + 2) (part 2 A + 2) (part 3 A + 2)
sharp A small = sharp-to (2 ^ 62) 29 (lit≤ tt) enough-29 A small
