-- `closest a b` is the c with |c - a / b| < 1 / 2, where there is one. Assumes nothing.
use mathlib.Core.Path.{◌≡◌, sym, ap, subst}
use mathlib.Core.Bool.{Bool, true, false, not}
use Prim.Native.Nat.{ℕ, suc, ◌+◌, ◌*◌, ◌/◌, ◌%◌, ◌≤◌, ◌<◌, compare, Ordering}
use native.Mathlib.Nat.{le_trans, le_of_eq, le_antisymm, mul-le-mul_right, suc-mul, mod-lt, div-add-mod'}
use native.Mathlib.Omega.{arith}
use lib.Dec.{T, ltb, ltb→lt, nltb→le}
use lib.Ieee.{nearest}
use lib.Ieee.Nearest.{closest}
use Rattle.rounding.proofs.Cells.{Cmp, cmp}

-- ---- three ways for two numbers, and their multiples
data Way (w c b : ℕ) : Type 0 where
  less : w * b + b ≤ c * b → Way w c b
  same : w ≡ c → Way w c b
  more : c * b + b ≤ w * b → Way w c b

way : (w c b : ℕ) → Way w c b
way w c b = go (ltb w c) (ltb c w) (ltb→lt w c) (ltb→lt c w) (nltb→le w c) (nltb→le c w)
  where
    times : (x y : ℕ) → x < y → x * b + b ≤ y * b
    times x y h = le_trans (le_of_eq (sym (suc-mul x b))) (mul-le-mul_right b h)

    go : (s t : Bool) → (T s → w < c) → (T t → c < w) → (T (not s) → c ≤ w) → (T (not t) → w ≤ c) → Way w c b
    go true t a d e f = less (times w c (a tt))
    go false true a d e f = more (times c w (d tt))
    go false false a d e f = same (le_antisymm (f tt) (e tt))

module _ (w c b r : ℕ) (R : r < b) (lo : 2 * (c * b) < 2 * (w * b + r) + b) (hi : 2 * (w * b + r) < 2 * (c * b) + b) where
  no_more : c * b + b ≤ w * b → ⊥
  no_more h = omega arith

  at_lt : r * 2 < b → Way w c b → w ≡ c
  at_lt l (less h) = absurd (omega arith)
  at_lt l (same h) = h
  at_lt l (more h) = absurd (no_more h)

  at-eq : r * 2 ≡ b → Way w c b → ⊥
  at-eq l (less h) = omega arith
  at-eq l (same h) = let e : w * b ≡ c * b = ap (λ (x : ℕ). x * b) h in omega arith
  at-eq l (more h) = no_more h

  at-gt : b < r * 2 → Way (suc w) c b → suc w ≡ c
  at-gt l (less h) = let e : suc w * b ≡ w * b + b = suc-mul w b in absurd (omega arith)
  at-gt l (same h) = h
  at-gt l (more h) = let e : suc w * b ≡ w * b + b = suc-mul w b in absurd (omega arith)

  pick : (o : Ordering) → Cmp o (r * 2) b → nearest w o ≡ c
  pick Ordering.lt l = at_lt l (way w c b)
  pick Ordering.eq l = absurd (at-eq l (way w c b))
  pick Ordering.gt l = at-gt l (way (suc w) c b)

pub closest-only : (a b c : ℕ) → 0 < b → 2 * (c * b) < 2 * a + b → 2 * a < 2 * (c * b) + b → closest a b ≡ c
closest-only a b c B lo hi =
    let w = a / b in
    let r = a % b in
    let e : a ≡ w * b + r = sym (div-add-mod' a b) in
    pick w c b r (mod-lt a B) (subst (λ (x : ℕ). 2 * (c * b) < 2 * x + b) e lo) (subst (λ (x : ℕ). 2 * x < 2 * (c * b) + b) e hi) (compare (r * 2) b) (cmp (r * 2) b)
