-- The square root of a whole number: `root n` is the r with r * r ≤ n < (r + 1) * (r + 1), and the only one. Assumes nothing.
use mathlib.Core.Path.{◌≡◌, sym, ap, ◌∙◌, subst}
use mathlib.Core.Bool.{Bool, true, false, not, cond}
use Prim.Native.Nat.{ℕ, zero, suc, ◌+◌, ◌*◌, ◌/◌, ◌^◌, ◌≤◌, ◌<◌, zero-le}
use native.Mathlib.Nat.{le_trans, le_of_eq, lt_of_lt_of_le, le_of_suc-le-suc, lt_of_not-le, not-le_of_lt, le_antisymm, zero-lt-suc, mul-mul-mul_comm, mul-le-mul, suc-mul, mul-suc, pow-suc, pow-le-pow_left, div-lt_iff_lt-mul}
use native.Mathlib.Omega.{arith}
use lib.Dec.{T, leb, leb→le, nleb→lt, lit≤}
use lib.Ieee.{size}
use lib.Ieee.Digits.{size-lt}
use Rattle.scalar.specs.Root.{root_in, root}

abbrev pub Root : ℕ → ℕ → Type 0
Root n r = (r * r ≤ n) × (n < suc r * suc r)

pub square : (r : ℕ) → suc r * suc r ≡ r * r + 2 * r + 1
square r = suc-mul r (suc r) ∙ ap (λ (x : ℕ). x + suc r) (mul-suc r r) ∙ go (r * r) r
  where
    go : (q r : ℕ) → q + r + suc r ≡ q + 2 * r + 1
    go q r = omega arith

-- from the root s of n / 4 to that of n: 2 * s or one more
step : (n s : ℕ) → Root (n / 4) s → (2 * s * (2 * s) ≤ n) × (n < suc (suc (2 * s)) * suc (suc (2 * s)))
step n s h = (
  le_trans (le_of_eq (mul-mul-mul_comm 2 s 2 s)) (low (s * s) h.0),
  subst (λ (x : ℕ). n < x) (sym (square (suc (2 * s)) ∙ ap (λ (x : ℕ). x + 2 * suc (2 * s) + 1) (square (2 * s) ∙ ap (λ (x : ℕ). x + 2 * (2 * s) + 1) (mul-mul-mul_comm 2 s 2 s)))) (high (s * s) s (subst (λ (x : ℕ). n / 4 < x) (square s) h.1)),
)
  where
    low : (q : ℕ) → q ≤ n / 4 → 4 * q ≤ n
    low q l = omega arith

    high : (q s : ℕ) → n / 4 < q + 2 * s + 1 → n < 4 * q + 2 * (2 * s) + 1 + 2 * suc (2 * s) + 1
    high q s l = omega arith

root_in-is : (d n : ℕ) → n < 4 ^ d → Root n (root_in d n)
unfolding root_in
root_in-is zero n h = (zero-le, h)
root_in-is (suc d) n h = go (root_in d (n / 4)) (root_in-is d (n / 4) ((div-lt_iff_lt-mul (zero-lt-suc 3)).1 (subst (λ (x : ℕ). n < x) (pow-suc 4 d) h)))
  where
    pick : (r : ℕ) (b : Bool) → (T b → suc r * suc r ≤ n) → (T (not b) → n < suc r * suc r) → r * r ≤ n → n < suc (suc r) * suc (suc r) → Root n (cond b (suc r) r)
    pick r true a b l m = (a tt, m)
    pick r false a b l m = (l, b tt)

    go : (s : ℕ) → Root (n / 4) s → Root n (cond (leb (suc (2 * s) * suc (2 * s)) n) (suc (2 * s)) (2 * s))
    go s k = let q = step n s k in pick (2 * s) (leb (suc (2 * s) * suc (2 * s)) n) (leb→le (suc (2 * s) * suc (2 * s)) n) (nleb→lt (suc (2 * s) * suc (2 * s)) n) q.0 q.1

pub root_is : (n : ℕ) → Root n (root n)
unfolding root
root_is n = root_in-is (size n) n (lt_of_lt_of_le (size-lt n) (pow-le-pow_left (lit≤ tt) (size n)))

-- ---- a number whose square is at most n is at most the root, and one whose square is above n is above it
pub root_ge : (n r s : ℕ) → n < suc r * suc r → s * s ≤ n → s ≤ r
root_ge n r s h k = le_of_suc-le-suc (lt_of_not-le (λ (g : suc r ≤ s). not-le_of_lt h (le_trans (mul-le-mul g g) k)))

pub root-lt : (n r s : ℕ) → r * r ≤ n → n < s * s → r < s
root-lt n r s h k = lt_of_not-le (λ (g : s ≤ r). not-le_of_lt k (le_trans (mul-le-mul g g) h))

pub root-only : (n r : ℕ) → Root n r → r ≡ root n
root-only n r h = le_antisymm (root_ge n (root n) r (root_is n).1 h.0) (root_ge n r (root n) h.1 (root_is n).0)

-- of two numbers the one with the larger square is larger
pub square-back : (a b : ℕ) → a * a ≤ b * b → a ≤ b
square-back a b h = root_ge (b * b) b a (omega arith) h
