-- The last digit of a pattern is that of the number of steps kept: even for an even number of steps, odd for an odd one. Assumes nothing.
use mathlib.Core.Path.{◌≡◌, refl, sym, ap, ◌∙◌, subst}
use mathlib.Core.Logic.{◌⊎◌, inl, inr}
use mathlib.Core.Bool.{Bool, true, false, not, cond}
use Prim.Native.Nat.{ℕ, zero, suc, ◌+◌, ◌-◌, ◌*◌, ◌/◌, ◌%◌, ◌^◌, ◌≤◌, ◌<◌, compare}
use native.Mathlib.Nat.{eq-zero-or-pos, le_trans, le_of_eq, le_antisymm, lt_of_lt_of_le, lt_of_le_of_lt, lt_of_not-le, lt_irrefl, mul-one, mul_assoc, mul-le-mul_right, mul-div_cancel, mul-mod_right, pow-succ', div-div-eq-div-mul}
use native.Mathlib.Omega.{arith}
use lib.Dec.{T, ltb, ltb→lt, nltb→le}
use lib.Pow.{pow_mono, shl_lt, pow-add, pow_pos, pow-lt}
use lib.Ieee.{Format, binary32, binary64, prec, size, hid, top}
use lib.Ieee.Digits.{size-lt, size-le, size_reaches, back}
use lib.Ieee.Fits.{two, two-le_pos, kept-lt, nearest-le}
use lib.Ieee.Order.{drop, kept}
use Rattle.rounding.proofs.Units.{pattern_of}

-- q * 2 ^ k, for an even q of at most 2 ^ p, has an even last digit
pub kept-le : (p n c : ℕ) → kept p n c ≤ 2 ^ p
kept-le p n c =
    let k = drop p n c in
    let u = c * 2 ^ k in
    le_trans (nearest-le (n / u) (compare (n % u * 2) u)) (subst (λ (x : ℕ). x < 2 ^ p) (div-div-eq-div-mul n c (2 ^ k)) (kept-lt p (n / c)))

even-times : (q x : ℕ) → q % 2 ≡ 0 → (q * x) % 2 ≡ 0
even-times q x h = ap (λ (z : ℕ). z * x % 2) (twice q h) ∙ ap (λ (z : ℕ). z % 2) (mul_assoc 2 (q / 2) x) ∙ mul-mod_right 2 (q / 2 * x)
  where
    twice : (q : ℕ) → q % 2 ≡ 0 → q ≡ 2 * (q / 2)
    twice q h = omega arith

pub pow_even : (p : ℕ) → 1 ≤ p → 2 ^ p % 2 ≡ 0
pow_even zero h = absurd (lt_irrefl 0 h)
pow_even (suc p) h = ap (λ (x : ℕ). x % 2) (pow-succ' 2 p) ∙ mul-mod_right 2 (2 ^ p)

pub last-even : (p q k : ℕ) → 2 ≤ p → q ≤ 2 ^ p → q % 2 ≡ 0 → q * 2 ^ k / 2 ^ (size (q * 2 ^ k) - p) % 2 ≡ 0
last-even p q k P Q E = go (ltb k z) (ltb→lt k z) (nltb→le k z)
  where
    N : ℕ
    N = q * 2 ^ k

    z : ℕ
    z = size N - p

    N-le : N ≤ 2 ^ (p + k)
    N-le = le_trans (mul-le-mul_right (2 ^ k) Q) (le_of_eq (sym (pow-add 2 p k)))

    shift : (p k : ℕ) → 2 ≤ p → p + k ≡ p - 1 + suc k
    shift p k h = omega arith

    z-le : (s p k : ℕ) → s ≤ suc (p + k) → k < s - p → s - p ≡ suc k
    z-le s p k h l = omega arith

    reach : (s p k : ℕ) → k < s - p → p + k < s
    reach s p k h = omega arith

    more : (p : ℕ) → 2 ≤ p → 1 ≤ p - 1
    more p h = omega arith

    go : (b : Bool) → (T b → k < z) → (T (not b) → z ≤ k) → N / 2 ^ z % 2 ≡ 0
    go true a b =
        let e : z ≡ suc k = z-le (size N) p k (size-le N (suc (p + k)) (lt_of_le_of_lt N-le (pow-lt (le_of_eq refl)))) (a tt) in
        let w : N ≡ 2 ^ (p - 1) * 2 ^ suc k =
        le_antisymm N-le (size_reaches N (p + k) (reach (size N) p k (a tt))) ∙ ap (λ (x : ℕ). 2 ^ x) (shift p k P) ∙ pow-add 2 (p - 1) (suc k) in
        ap (λ (x : ℕ). N / 2 ^ x % 2) e ∙ ap (λ (x : ℕ). x / 2 ^ suc k % 2) w ∙ ap (λ (x : ℕ). x % 2) (mul-div_cancel (2 ^ (p - 1)) (pow_pos (suc k))) ∙ pow_even (p - 1) (more p P)
    go false a b =
        let w : N ≡ q * 2 ^ (k - z) * 2 ^ z = ap (λ (x : ℕ). q * x) (ap (λ (x : ℕ). 2 ^ x) (sym (back k z (b tt))) ∙ pow-add 2 (k - z) z) ∙ sym (mul_assoc q (2 ^ (k - z)) (2 ^ z)) in
        ap (λ (x : ℕ). x / 2 ^ z % 2) w ∙ ap (λ (x : ℕ). x % 2) (mul-div_cancel (q * 2 ^ (k - z)) (pow_pos z)) ∙ even-times q (2 ^ (k - z)) E

pub even-pattern : (f : Format) (s : Bool) (z x : ℕ) → x % 2 ≡ 0 → (cond s (top f) 0 + z * hid f + x) % 2 ≡ 0
even-pattern binary32 true z x h = omega arith
even-pattern binary32 false z x h = omega arith
even-pattern binary64 true z x h = omega arith
even-pattern binary64 false z x h = omega arith

-- ---- an odd number of steps has an odd last digit
pub size_exact : (z n : ℕ) → 2 ^ z ≤ n → n < 2 ^ suc z → size n ≡ suc z
size_exact z n lo hi = le_antisymm (size-le n (suc z) hi) (lt_of_not-le (λ (g : size n ≤ z). lt_irrefl n (lt_of_lt_of_le (size-lt n) (le_trans (pow_mono g) lo))))

dropped : (p d k : ℕ) → 1 ≤ p → d < 2 ^ p → (0 < k → 2 ^ (p - 1) ≤ d) → size (d * 2 ^ k) - p ≡ k
dropped p d k P h l = go (eq-zero-or-pos k)
  where
    none : (z : ℕ) → z ≤ p → z - p ≡ 0
    none z a = omega arith

    full : (p k : ℕ) → 1 ≤ p → p + k ≡ suc (p - 1 + k)
    full p k a = omega arith

    less : (p k : ℕ) → 1 ≤ p → suc (p - 1 + k) - p ≡ k
    less p k a = omega arith

    go : (k ≡ 0) ⊎ (0 < k) → size (d * 2 ^ k) - p ≡ k
    go (inl e) = none (size (d * 2 ^ k)) (size-le (d * 2 ^ k) p (subst (λ (x : ℕ). d * 2 ^ x < 2 ^ p) (sym e) (subst (λ (x : ℕ). x < 2 ^ p) (sym (mul-one d)) h))) ∙ sym e
    go (inr e) =
        ap (λ (x : ℕ). x - p) (size_exact (p - 1 + k) (d * 2 ^ k) (le_trans (le_of_eq (pow-add 2 (p - 1) k)) (mul-le-mul_right (2 ^ k) (l e))) (lt_of_lt_of_le (shl_lt p k h) (le_of_eq (ap (λ (x : ℕ). 2 ^ x) (full p k P)))))
        ∙ less p k P

odd-pattern : (f : Format) (s : Bool) (z x : ℕ) → x % 2 ≡ 1 → (cond s (top f) 0 + z * hid f + x) % 2 ≡ 1
odd-pattern binary32 true z x h = omega arith
odd-pattern binary32 false z x h = omega arith
odd-pattern binary64 true z x h = omega arith
odd-pattern binary64 false z x h = omega arith

pub odd-bits : (f : Format) (s : Bool) (d k : ℕ) → d % 2 ≡ 1 → d < 2 ^ prec f → (0 < k → 2 ^ (prec f - 1) ≤ d) → pattern_of f s (d * 2 ^ k) % 2 ≡ 1
odd-bits f s d k o h l =
    let N = d * 2 ^ k in
    odd-pattern f s (size N - prec f) (N / 2 ^ (size N - prec f))
    (ap (λ (x : ℕ). N / 2 ^ x % 2) (dropped (prec f) d k (two-le_pos (prec f) (two f)) h l) ∙ ap (λ (x : ℕ). x % 2) (mul-div_cancel d (pow_pos k)) ∙ o)
