-- Digits shifted to be 24 of them: by the zeros that lead them in 32 digits, less 8. The exponent falls by as much. Assumes nothing.
use mathlib.Core.Path.{◌≡◌, sym, ap, ap₂, ◌∙◌, subst}
use Prim.Native.Nat.{ℕ, suc, ◌+◌, ◌-◌, ◌*◌, ◌/◌, ◌%◌, ◌^◌, ◌≤◌, ◌<◌}
use native.Mathlib.Nat.{le_trans, le_of_eq, lt_of_lt_of_le, lt_of_le_of_lt, lt_of_not-le, lt_irrefl, mul_assoc, mul-le-mul_right, mod-eq_of_lt}
use native.Mathlib.Omega.{arith}
use lib.Dec.{lit≤}
use lib.Pow.{pow-add, pow_mono, shl_lt}
use lib.Count.{count_leading_zeros, leading_top}
use lib.Ieee.{binary32, of_bits}
use Rattle.scalar.specs.Root.{root_of_units}
use Rattle.scalar.specs.RootPattern.{root_digits, root_pattern}
use Rattle.scalar.proofs.RootPattern.{digits_in, root-pattern}

-- t * 2 ^ k units are m * 2 ^ (h - 126) units, said without a fraction
pub record Shifted (t k z m h : ℕ) : Type 0 where
  pub most : z ≤ 23
  pub low : 2 ^ 23 ≤ m
  pub high : m < 2 ^ 24
  pub exact : t * 2 ^ k * 2 ^ 149 ≡ m * 2 ^ (h + 23)

pub pow_lt_back : (i p : ℕ) → 2 ^ i < 2 ^ p → i < p
pow_lt_back i p h = lt_of_not-le (λ (g : p ≤ i). lt_irrefl (2 ^ i) (lt_of_lt_of_le h (pow_mono g)))

module _ (t k : ℕ) (p : 0 < t) (h : t < 2 ^ 24) where
  top : (j : ℕ) × (count_leading_zeros 32 t + suc j ≡ 32) × (2 ^ j ≤ t) × (t < 2 ^ suc j)
  top = leading_top 32 t p (lt_of_lt_of_le h (lit≤ tt))

  few : top.0 < 24
  few = pow_lt_back top.0 24 (lt_of_le_of_lt top.2 h)

  pub eight : 8 ≤ count_leading_zeros 32 t
  eight = let a = few in let b = top.1 in omega arith

  pub shifted : Shifted t k (count_leading_zeros 32 t - 8) (t * 2 ^ (count_leading_zeros 32 t - 8)) (k + 126 - (count_leading_zeros 32 t - 8))
  shifted = go (count_leading_zeros 32 t) top.0 top.1 top.2 top.3 few
    where
      up : (z j : ℕ) → z + suc j ≡ 32 → j < 24 → j + (z - 8) ≡ 23
      up z j e l = omega arith

      up_one : (z j : ℕ) → z + suc j ≡ 32 → j < 24 → suc j + (z - 8) ≡ 24
      up_one z j e l = omega arith

      all : (z j : ℕ) → z + suc j ≡ 32 → j < 24 → k + 149 ≡ z - 8 + (k + 126 - (z - 8) + 23)
      all z j e l = omega arith

      go : (z j : ℕ) → z + suc j ≡ 32 → 2 ^ j ≤ t → t < 2 ^ suc j → j < 24 → Shifted t k (z - 8) (t * 2 ^ (z - 8)) (k + 126 - (z - 8))
      go z j e lo hi l = record {
        most = omega arith;
        low = le_trans (le_of_eq (ap (λ (x : ℕ). 2 ^ x) (sym (up z j e l)) ∙ pow-add 2 j (z - 8))) (mul-le-mul_right (2 ^ (z - 8)) lo);
        high = lt_of_lt_of_le (shl_lt (suc j) (z - 8) hi) (le_of_eq (ap (λ (x : ℕ). 2 ^ x) (up_one z j e l)));
        exact =
            mul_assoc t (2 ^ k) (2 ^ 149)
            ∙ ap (λ (x : ℕ). t * x) (sym (pow-add 2 k 149) ∙ ap (λ (x : ℕ). 2 ^ x) (all z j e l) ∙ pow-add 2 (z - 8) (k + 126 - (z - 8) + 23))
            ∙ sym (mul_assoc t (2 ^ (z - 8)) (2 ^ (k + 126 - (z - 8) + 23)));
      }

-- within 32 bits nothing is lost
pub in-word : (m : ℕ) → m < 2 ^ 24 → m % 2 ^ 32 ≡ m
in-word m h = mod-eq_of_lt (lt_of_lt_of_le h (lit≤ tt))

-- h and the last 23 digits of m, made up to one number, are got back from it
pub taken-apart : (m h e : ℕ) → 2 ^ 23 ≤ m → m < 2 ^ 24 → e ≡ m % 2 ^ 23 + h * 2 ^ 23 → root_pattern (2 ^ 23 + e % 2 ^ 23) (e / 2 ^ 23) ≡ root_pattern m h
taken-apart m h e lo hi i =
    let p : 2 ^ 23 + e % 2 ^ 23 ≡ m = omega arith in
    let q : e / 2 ^ 23 ≡ h = omega arith in
    ap₂ (λ (x y : ℕ). root_pattern x y) p q

-- the pattern is that of a finite value
pub pattern_lt : (m h : ℕ) → 2 ^ 23 ≤ m → m < 2 ^ 24 → h ≤ 400 → root_pattern m h < 0x7f80_0000
pattern_lt m h lo hi l = go h (root_digits m h) l (digits_in m h lo hi).1
  where
    go : (h d : ℕ) → h ≤ 400 → d ≤ 2 ^ 24 → h / 2 * 2 ^ 23 + d < 0x7f80_0000
    go h d a b = omega arith

-- ---- the root of t * 2 ^ k units, by the pattern of its shifted digits
pub record Rooted (t k m h : ℕ) : Type 0 where
  pub low : 2 ^ 23 ≤ m
  pub high : m < 2 ^ 24
  pub is : of_bits binary32 (root_pattern m h) ≡ root_of_units (t * 2 ^ k)
  pub finite : root_pattern m h < 0x7f80_0000

pub rooted : (t k z : ℕ) → 0 < t → t < 2 ^ 24 → k ≤ 253 → z ≡ count_leading_zeros 32 t - 8 → Rooted t k (t * 2 ^ z % 2 ^ 32) (k + 126 - z)
rooted t k z p l b e = go (subst (λ (x : ℕ). Shifted t k x (t * 2 ^ x) (k + 126 - x)) (sym e) (shifted t k p l))
  where
    go : Shifted t k z (t * 2 ^ z) (k + 126 - z) → Rooted t k (t * 2 ^ z % 2 ^ 32) (k + 126 - z)
    go s =
        let few : k + 126 - z ≤ 400 = omega arith in
        subst (λ (m : ℕ). Rooted t k m (k + 126 - z)) (sym (in-word (t * 2 ^ z) s.high))
        (record {
          low = s.low;
          high = s.high;
          is = sym (root-pattern (t * 2 ^ k) (t * 2 ^ z) (k + 126 - z) s.low s.high (omega (arith, s.most)) few s.exact);
          finite = pattern_lt (t * 2 ^ z) (k + 126 - z) s.low s.high few;
        })
