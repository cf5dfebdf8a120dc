-- The core of the theorem, in whole numbers: `round` chooses one end of the cell that holds the number, and no value of the format lies strictly inside that cell. Assumes nothing.
use mathlib.Core.Path.{◌≡◌, refl, sym, ap, ◌∙◌, subst}
use mathlib.Core.Logic.{◌⊎◌, inl, inr}
use mathlib.Core.Bool.{Bool, true, false, not}
use Prim.Native.Nat.{ℕ, zero, suc, ◌+◌, ◌-◌, ◌*◌, ◌/◌, ◌%◌, ◌^◌, ◌≤◌, ◌<◌, compare, Ordering}
use native.Mathlib.Nat.{le_trans, le_of_eq, le_of_lt, mul_assoc, mul_comm, mul-le-mul_right, suc-mul, add-mul, mul-pos, mod-lt, div-add-mod', le-div_iff_mul-le, div-div-eq-div-mul}
use native.Mathlib.Omega.{arith}
use lib.Dec.{T, ltb, ltb→lt, nltb→le, is_le, compare_is_eq, eqb, leb→le, nleb→lt, eqb→eq, eqb_refl}
use lib.Arith.{lt_of_le-ne}
use lib.Pow.{pow-add, pow_pos, pow_mono}
use lib.Ieee.{size, nearest}
use lib.Ieee.Digits.{size_reaches, back}
use lib.Ieee.Order.{drop, kept}
use Rattle.rounding.specs.TiesToEven.{gap}

-- ---- what `compare` says
abbrev pub Cmp : Ordering → ℕ → ℕ → Type 0
Cmp Ordering.lt a b = a < b
Cmp Ordering.eq a b = a ≡ b
Cmp Ordering.gt a b = b < a

pub cmp : (a b : ℕ) → Cmp (compare a b) a b
cmp a b = go (compare a b) (leb→le a b) (nleb→lt a b) (eqb→eq a b) (λ (e : a ≡ b). subst (λ (x : ℕ). T (eqb a x)) e (eqb_refl a))
  where
    go : (o : Ordering) → (T (is_le o) → a ≤ b) → (T (not (is_le o)) → b < a) → (T (compare_is_eq o) → a ≡ b) → (a ≡ b → T (compare_is_eq o)) → Cmp o a b
    go Ordering.lt h k e n = lt_of_le-ne (h tt) n
    go Ordering.eq h k e n = e tt
    go Ordering.gt h k e n = k tt

-- ---- the cell from W to W + u, which holds n = W + r; a v outside the cell's inside is no nearer to n than the end that `nearest` takes
abbrev pub Out : ℕ → ℕ → ℕ → Type 0
Out W u v = (v ≤ W) ⊎ (W + u ≤ v)

low-lo : (W u r v : ℕ) → r * 2 ≤ u → v ≤ W → gap W (W + r) ≤ gap v (W + r)
low-lo W u r v c h = omega arith

low-hi : (W u r v : ℕ) → r * 2 ≤ u → W + u ≤ v → gap W (W + r) ≤ gap v (W + r)
low-hi W u r v c h = omega arith

high-lo : (W u r v : ℕ) → u ≤ r * 2 → r < u → v ≤ W → gap (W + u) (W + r) ≤ gap v (W + r)
high-lo W u r v c l h = omega arith

high-hi : (W u r v : ℕ) → u ≤ r * 2 → r < u → W + u ≤ v → gap (W + u) (W + r) ≤ gap v (W + r)
high-hi W u r v c l h = omega arith

low-tie-lo : (W u r v : ℕ) → r * 2 < u → v ≤ W → gap W (W + r) ≡ gap v (W + r) → v ≡ W
low-tie-lo W u r v c h e = omega arith

low-tie-hi : (W u r v : ℕ) → r * 2 < u → W + u ≤ v → gap W (W + r) ≡ gap v (W + r) → v ≡ W
low-tie-hi W u r v c h e = omega arith

high-tie-lo : (W u r v : ℕ) → u < r * 2 → r < u → v ≤ W → gap (W + u) (W + r) ≡ gap v (W + r) → v ≡ W + u
high-tie-lo W u r v c l h e = omega arith

high-tie-hi : (W u r v : ℕ) → u < r * 2 → r < u → W + u ≤ v → gap (W + u) (W + r) ≡ gap v (W + r) → v ≡ W + u
high-tie-hi W u r v c l h e = omega arith

-- w + w % 2 is w or w + 1
even-or : (w : ℕ) → (w + w % 2 ≡ w) ⊎ (w + w % 2 ≡ suc w)
even-or w = go (w % 2) refl
  where
    go : (b : ℕ) → w % 2 ≡ b → (w + w % 2 ≡ w) ⊎ (w + w % 2 ≡ suc w)
    go zero e = inl (omega arith)
    go (suc b) e = inr (omega arith)

tie-even : (w : ℕ) → (w + w % 2) % 2 ≡ 0
tie-even w = omega arith

near-at : (w u r v : ℕ) (o : Ordering) → Cmp o (r * 2) u → r < u → Out (w * u) u v → gap (nearest w o * u) (w * u + r) ≤ gap v (w * u + r)
near-at w u r v Ordering.lt c l (inl h) = low-lo (w * u) u r v (le_of_lt c) h
near-at w u r v Ordering.lt c l (inr h) = low-hi (w * u) u r v (le_of_lt c) h
near-at w u r v Ordering.eq c l o = go (even-or w) o
  where
    go : (w + w % 2 ≡ w) ⊎ (w + w % 2 ≡ suc w) → Out (w * u) u v → gap ((w + w % 2) * u) (w * u + r) ≤ gap v (w * u + r)
    go (inl e) (inl h) = subst (λ (x : ℕ). gap (x * u) (w * u + r) ≤ gap v (w * u + r)) (sym e) (low-lo (w * u) u r v (le_of_eq c) h)
    go (inl e) (inr h) = subst (λ (x : ℕ). gap (x * u) (w * u + r) ≤ gap v (w * u + r)) (sym e) (low-hi (w * u) u r v (le_of_eq c) h)
    go (inr e) (inl h) = subst (λ (x : ℕ). gap x (w * u + r) ≤ gap v (w * u + r)) (sym (ap (λ (x : ℕ). x * u) e ∙ suc-mul w u)) (high-lo (w * u) u r v (le_of_eq (sym c)) l h)
    go (inr e) (inr h) = subst (λ (x : ℕ). gap x (w * u + r) ≤ gap v (w * u + r)) (sym (ap (λ (x : ℕ). x * u) e ∙ suc-mul w u)) (high-hi (w * u) u r v (le_of_eq (sym c)) l h)
near-at w u r v Ordering.gt c l (inl h) = subst (λ (x : ℕ). gap x (w * u + r) ≤ gap v (w * u + r)) (sym (suc-mul w u)) (high-lo (w * u) u r v (le_of_lt c) l h)
near-at w u r v Ordering.gt c l (inr h) = subst (λ (x : ℕ). gap x (w * u + r) ≤ gap v (w * u + r)) (sym (suc-mul w u)) (high-hi (w * u) u r v (le_of_lt c) l h)

-- as near as the chosen end: it is that end, or the chosen number is even
tie-at : (w u r v : ℕ) (o : Ordering) → Cmp o (r * 2) u → r < u → Out (w * u) u v → gap (nearest w o * u) (w * u + r) ≡ gap v (w * u + r)
    → (v ≡ nearest w o * u) ⊎ (nearest w o % 2 ≡ 0)
tie-at w u r v Ordering.lt c l (inl h) e = inl (low-tie-lo (w * u) u r v c h e)
tie-at w u r v Ordering.lt c l (inr h) e = inl (low-tie-hi (w * u) u r v c h e)
tie-at w u r v Ordering.eq c l o e = inr (tie-even w)
tie-at w u r v Ordering.gt c l (inl h) e = inl (high-tie-lo (w * u) u r v c l h (ap (λ (x : ℕ). gap x (w * u + r)) (sym (suc-mul w u)) ∙ e) ∙ sym (suc-mul w u))
tie-at w u r v Ordering.gt c l (inr h) e = inl (high-tie-hi (w * u) u r v c l h (ap (λ (x : ℕ). gap x (w * u + r)) (sym (suc-mul w u)) ∙ e) ∙ sym (suc-mul w u))

-- ---- `round`'s own cell, for the fraction n / c in units: u is c * 2 ^ k
-- where digits are dropped, the whole number of steps has all the digits that are kept
all_in_use : (z p : ℕ) → 0 < p → 0 < z - p → p - 1 + (z - p) < z
all_in_use z p P h = omega arith

pub steps-ge : (p n c : ℕ) → 0 < p → 0 < drop p n c → 2 ^ (p - 1) ≤ n / (c * 2 ^ drop p n c)
steps-ge p n c P K =
    let k = drop p n c in
    let w = n / c in
    let a : 2 ^ (p - 1) * 2 ^ k ≤ w = le_trans (le_of_eq (sym (pow-add 2 (p - 1) k))) (size_reaches w (p - 1 + k) (all_in_use (size w) p P K)) in
    subst (λ (x : ℕ). 2 ^ (p - 1) ≤ x) (div-div-eq-div-mul n c (2 ^ k)) ((le-div_iff_mul-le (pow_pos k)).1 a)

room : (p j k : ℕ) → 0 < p → j < k → p + j ≤ p - 1 + k
room p j k P h = omega arith

some : (j k : ℕ) → j < k → 0 < k
some j k h = omega arith

-- A value of the format is q * 2 ^ j units, with q below 2 ^ p. It is no number strictly between w * 2 ^ k and (w + 1) * 2 ^ k, where w has all p digits, or k is 0.
pub cell : (p w k q j : ℕ) → 0 < p → (0 < k → 2 ^ (p - 1) ≤ w) → q < 2 ^ p → Out (w * 2 ^ k) (2 ^ k) (q * 2 ^ j)
cell p w k q j P W Q = go (ltb j k) (ltb→lt j k) (nltb→le j k)
  where
    whole : (d : ℕ) (t : Bool) → (T t → w < d) → (T (not t) → d ≤ w) → Out (w * 2 ^ k) (2 ^ k) (d * 2 ^ k)
    whole d true x y = inr (le_trans (le_of_eq (sym (suc-mul w (2 ^ k)))) (mul-le-mul_right (2 ^ k) (x tt)))
    whole d false x y = inl (mul-le-mul_right (2 ^ k) (y tt))

    go : (b : Bool) → (T b → j < k) → (T (not b) → k ≤ j) → Out (w * 2 ^ k) (2 ^ k) (q * 2 ^ j)
    go true a b =
        inl (le_trans (mul-le-mul_right (2 ^ j) (le_of_lt Q))
        (le_trans (le_of_eq (sym (pow-add 2 p j)))
        (le_trans (pow_mono (room p j k P (a tt)))
        (le_trans (le_of_eq (pow-add 2 (p - 1) k)) (mul-le-mul_right (2 ^ k) (W (some j k (a tt))))))))
    go false a b =
        let d = q * 2 ^ (j - k) in
        let e : q * 2 ^ j ≡ d * 2 ^ k = ap (λ (z : ℕ). q * z) (ap (λ (z : ℕ). 2 ^ z) (sym (back j k (b tt))) ∙ pow-add 2 (j - k) k) ∙ sym (mul_assoc q (2 ^ (j - k)) (2 ^ k)) in
        subst (λ (v : ℕ). Out (w * 2 ^ k) (2 ^ k) v) (sym e) (whole d (ltb w d) (ltb→lt w d) (nltb→le w d))

pub regroup : (x c k : ℕ) → x * 2 ^ k * c ≡ x * (c * 2 ^ k)
regroup x c k = mul_assoc x (2 ^ k) c ∙ ap (λ (z : ℕ). x * z) (mul_comm (2 ^ k) c)

-- so it is outside `round`'s cell
pub outside : (p n c q j : ℕ) → 0 < p → q < 2 ^ p → Out (n / (c * 2 ^ drop p n c) * (c * 2 ^ drop p n c)) (c * 2 ^ drop p n c) (q * 2 ^ j * c)
outside p n c q j P Q =
    let k = drop p n c in
    let w = n / (c * 2 ^ k) in
    times w k (cell p w k q j P (steps-ge p n c P) Q)
  where
    times : (w k : ℕ) → Out (w * 2 ^ k) (2 ^ k) (q * 2 ^ j) → Out (w * (c * 2 ^ k)) (c * 2 ^ k) (q * 2 ^ j * c)
    times w k (inl h) = inl (le_trans (mul-le-mul_right c h) (le_of_eq (regroup w c k)))
    times w k (inr h) = inr (le_trans (le_of_eq (sym (add-mul (w * 2 ^ k) (2 ^ k) c ∙ ap (λ (z : ℕ). z + 2 ^ k * c) (regroup w c k) ∙ ap (λ (z : ℕ). w * (c * 2 ^ k) + z) (mul_comm (2 ^ k) c)))) (mul-le-mul_right c h))

-- ---- the two laws, of the value kept * 2 ^ drop and any value q * 2 ^ j of the format
pub grid-nearest : (p n c q j : ℕ) → 0 < p → 0 < c → q < 2 ^ p → gap (kept p n c * 2 ^ drop p n c * c) n ≤ gap (q * 2 ^ j * c) n
grid-nearest p n c q j P C Q =
    let k = drop p n c in
    let u = c * 2 ^ k in
    let w = n / u in
    let r = n % u in
    let U : 0 < u = mul-pos C (pow_pos k) in
    subst (λ (x : ℕ). gap x n ≤ gap (q * 2 ^ j * c) n) (sym (regroup (kept p n c) c k))
    (subst (λ (x : ℕ). gap (kept p n c * u) x ≤ gap (q * 2 ^ j * c) x) (div-add-mod' n u)
    (near-at w u r (q * 2 ^ j * c) (compare (r * 2) u) (cmp (r * 2) u) (mod-lt n U) (outside p n c q j P Q)))

pub grid-tie : (p n c q j : ℕ) → 0 < p → 0 < c → q < 2 ^ p → gap (kept p n c * 2 ^ drop p n c * c) n ≡ gap (q * 2 ^ j * c) n
    → (q * 2 ^ j * c ≡ kept p n c * 2 ^ drop p n c * c) ⊎ (kept p n c % 2 ≡ 0)
grid-tie p n c q j P C Q e =
    let k = drop p n c in
    let u = c * 2 ^ k in
    let w = n / u in
    let r = n % u in
    let U : 0 < u = mul-pos C (pow_pos k) in
    subst (λ (x : ℕ). (q * 2 ^ j * c ≡ x) ⊎ (kept p n c % 2 ≡ 0)) (sym (regroup (kept p n c) c k))
    (tie-at w u r (q * 2 ^ j * c) (compare (r * 2) u) (cmp (r * 2) u) (mod-lt n U) (outside p n c q j P Q)
    (subst (λ (x : ℕ). gap (kept p n c * u) x ≡ gap (q * 2 ^ j * c) x) (sym (div-add-mod' n u)) (subst (λ (x : ℕ). gap x n ≡ gap (q * 2 ^ j * c) n) (regroup (kept p n c) c k) e)))
