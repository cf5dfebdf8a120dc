-- The rounded root of n units: its value, and its pattern, which is the one that the code puts together. Assumes nothing.
use mathlib.Core.Path.{◌≡◌, refl, sym, ap, ◌∙◌, subst}
use mathlib.Core.Logic.{◌⊎◌, inl, inr}
use mathlib.Core.Bool.{false}
use Prim.Native.Nat.{ℕ, suc, ◌+◌, ◌-◌, ◌*◌, ◌/◌, ◌^◌, ◌≤◌, ◌<◌}
use native.Mathlib.Nat.{le_trans, le_of_eq, lt_of_lt_of_le, lt_of_le_of_lt, eq-or-lt_of_le, zero-add, mul-le-mul_right, mul-div_cancel, pow-succ'}
use native.Mathlib.Omega.{arith}
use lib.Dec.{T, lit<, lit≤}
use lib.Pow.{pow-add, pow_pos, pow-lt, shl_lt}
use lib.Ieee.{Float, binary32, size, units, round, fits, of_bits}
use lib.Ieee.Fits.{round-fits}
use lib.Ieee.Bits.{of_bits-to_bits}
use lib.Ieee.Exact.{HasValue, units_val}
use Rattle.rounding.proofs.Units.{pattern_of, value-bits}
use Rattle.rounding.proofs.LastDigit.{size_exact}
use Rattle.scalar.specs.Root.{root, root_of_units}
use Rattle.scalar.specs.RootPattern.{radicand, root_digits, root_pattern}
use Rattle.scalar.proofs.WholeRoot.{root_is}
use Rattle.scalar.proofs.RootDigits.{handed, span, root-low, root-high, rounds}

-- ---- the pattern of c * 2 ^ k units, for a c of 24 digits: k in the exponent's field, and c's leading digit adds one to it
drop-24 : (k : ℕ) → suc (23 + k) - 24 ≡ k
drop-24 k = omega arith

full : (k : ℕ) → 24 + k ≡ suc (23 + k)
full k = omega arith

pattern-under : (c k : ℕ) → 2 ^ 23 ≤ c → c < 2 ^ 24 → pattern_of binary32 false (c * 2 ^ k) ≡ k * 2 ^ 23 + c
pattern-under c k lo hi =
    let N = c * 2 ^ k in
    let z : size N - 24 ≡ k =
    ap (λ (x : ℕ). x - 24) (size_exact (23 + k) N (le_trans (le_of_eq (pow-add 2 23 k)) (mul-le-mul_right (2 ^ k) lo)) (lt_of_lt_of_le (shl_lt 24 k hi) (le_of_eq (ap (λ (x : ℕ). 2 ^ x) (full k))))) ∙ drop-24 k in
    ap (λ (x : ℕ). 0 + x * 2 ^ 23 + N / 2 ^ x) z ∙ ap (λ (x : ℕ). x + N / 2 ^ k) (zero-add (k * 2 ^ 23)) ∙ ap (λ (x : ℕ). k * 2 ^ 23 + x) (mul-div_cancel c (pow_pos k))

pub pattern-at : (c k : ℕ) → 2 ^ 23 ≤ c → c ≤ 2 ^ 24 → pattern_of binary32 false (c * 2 ^ k) ≡ k * 2 ^ 23 + c
pattern-at c k lo hi = go (eq-or-lt_of_le hi)
  where
    up-by-one : (p : ℕ) → 2 ^ 24 * p ≡ 2 ^ 23 * (2 * p)
    up-by-one p = omega arith

    carry : (k : ℕ) → suc k * 2 ^ 23 + 2 ^ 23 ≡ k * 2 ^ 23 + 2 ^ 24
    carry k = omega arith

    go : (c ≡ 2 ^ 24) ⊎ (c < 2 ^ 24) → pattern_of binary32 false (c * 2 ^ k) ≡ k * 2 ^ 23 + c
    go (inr l) = pattern-under c k lo l
    go (inl e) =
        ap (λ (x : ℕ). pattern_of binary32 false x) (ap (λ (x : ℕ). x * 2 ^ k) e ∙ up-by-one (2 ^ k) ∙ ap (λ (x : ℕ). 2 ^ 23 * x) (sym (pow-succ' 2 k)))
        ∙ pattern-under (2 ^ 23) (suc k) (lit≤ tt) (lit< tt) ∙ carry k ∙ ap (λ (x : ℕ). k * 2 ^ 23 + x) (sym e)

-- ---- the digits of the root: 2 ^ 23 to 2 ^ 24
pub digits_in : (m h : ℕ) → 2 ^ 23 ≤ m → m < 2 ^ 24 → (2 ^ 23 ≤ root_digits m h) × (root_digits m h ≤ 2 ^ 24)
digits_in m h lo hi =
    let A = radicand m h in
    let s = span m h lo hi in
    go (root A) (root-low A (root A) (root_is A) s.0) (root-high A (root A) (root_is A) s.1)
  where
    go : (Q : ℕ) → 2 ^ 24 ≤ Q → Q < 2 ^ 25 → (2 ^ 23 ≤ (Q + 1) / 2) × ((Q + 1) / 2 ≤ 2 ^ 24)
    go Q a b = (omega arith, omega arith)

-- ---- the rounded root of n units: its value and its pattern
root_of_units-is : (n : ℕ) → root_of_units n ≡ round binary32 false (handed (n * 2 ^ 149) (root (n * 2 ^ 149))) (2 * 2 ^ 149)
unfolding root_of_units
root_of_units-is n = refl

module _ (n m h : ℕ) (lo : 2 ^ 23 ≤ m) (hi : m < 2 ^ 24) (H : 2 ≤ h) (H' : h ≤ 400) (e : n * 2 ^ 149 ≡ m * 2 ^ (h + 23)) where
  pub root-units : root_of_units n ≡ units binary32 false (root_digits m h) (h / 2)
  root-units = root_of_units-is n ∙ ap (λ (x : ℕ). round binary32 false (handed x (root x)) (2 * 2 ^ 149)) e ∙ rounds m h lo hi H

  pub root-fits : T (fits binary32 (root_of_units n))
  root-fits = subst (λ (x : Float). T (fits binary32 x)) (sym (root_of_units-is n)) (round-fits binary32 false (handed (n * 2 ^ 149) (root (n * 2 ^ 149))) (2 * 2 ^ 149))

  pub root-value : HasValue (root_of_units n) false (root_digits m h * 2 ^ (h / 2)) (2 ^ 149)
  root-value =
      let d = digits_in m h lo hi in
      subst (λ (x : Float). HasValue x false (root_digits m h * 2 ^ (h / 2)) (2 ^ 149)) (sym root-units)
      (units_val binary32 false (root_digits m h) (h / 2) (lt_of_le_of_lt (mul-le-mul_right (2 ^ (h / 2)) d.1) (lt_of_le_of_lt (le_of_eq (sym (pow-add 2 24 (h / 2)))) (pow-lt {j = 277} (small h H')))))
    where
      small : (h : ℕ) → h ≤ 400 → 24 + h / 2 < 277
      small h l = omega arith

  pub root-pattern : root_of_units n ≡ of_bits binary32 (root_pattern m h)
  root-pattern =
      let d = digits_in m h lo hi in
      sym (of_bits-to_bits binary32 (root_of_units n) root-fits)
      ∙ ap (λ (x : ℕ). of_bits binary32 x) (value-bits binary32 (root_of_units n) false (root_digits m h * 2 ^ (h / 2)) root-value ∙ pattern-at (root_digits m h) (h / 2) d.0 d.1)
