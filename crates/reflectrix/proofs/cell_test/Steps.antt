-- Product, quotient and root of numbers above zero, in units of 2 ^ -149, each with the error of its rounding.
use mathlib.Core.Path.{◌≡◌, sym, ap, ◌∙◌, subst}
use mathlib.Core.Bool.{Bool, true, false, cond}
use Prim.Native.Nat.{ℕ, zero, suc, ◌+◌, ◌-◌, ◌*◌, ◌/◌, ◌^◌, ◌≤◌, ◌<◌}
use native.Mathlib.Nat.{le_trans, lt_of_lt_of_le, lt_of_le_of_lt, mul-pos, mul-le-mul_right, le_of_mul-le-mul_right, lt_of_mul-lt-mul_right, zero-lt-suc, div-eq_of_lt-le, min-eq_left}
use native.Mathlib.Omega.{arith}
use lib.IntN.{pos}
use lib.Dec.{T, eqb, eqb→eq, eqb-suc-zero, lit≤, lit<}
use lib.Pow.{pow_pos}
use lib.Ieee.{Float, nan, inf, fin, binary32, up, down, round, mul, div, le}
use lib.Ieee.Fits.{down_pos}
use lib.Ieee.Exact.{HasValue}
use lib.Ieee.Scale.{round_same}
use lib.Ieee.Positive.{positive, num, den, den_pos, mul_at, positive_of_value, value→cross, values_of_le}
use Rattle.rounding.specs.TiesToEven.{limit}
use Rattle.scalar.specs.Root.{root, root_of_units, sqrt_of}
use Rattle.scalar.specs.Scalar.{trunc_of}
use Rattle.scalar.proofs.WholeRoot.{Root, root_is, root_ge, root-lt}
use Rattle.scalar.proofs.Patterns.{sqrt-at}
use Rattle.reflectrix.proofs.cell_test.Near.{Rounded, rounds}

abbrev pub L : ℕ
L = 2 ^ 149

-- x is X units, and above zero
abbrev pub Is : Float → ℕ → Type 0
Is x X = HasValue x false X (2 ^ 149)

above : (x : Float) (X c : ℕ) → HasValue x false X c → 0 < X → T (positive x)
above x X c h p = positive_of_value x X c h p

-- ---- products
pub product : (x y : Float) (X Y : ℕ) → Is x X → Is y Y → 0 < X → 0 < Y → 2 ^ 23 * L ≤ X * Y → X * Y < limit binary32 * (L * L) → Rounded (mul binary32 x y) (X * Y) L
product x y X Y h k p q lo hi =
    subst (λ (z : Float). Rounded z (X * Y) L) (sym (mul_at binary32 x y X L Y L (above x X L h p) (above y Y L k q) (pow_pos 149) (pow_pos 149) h k))
    (rounds (X * Y) L (pow_pos 149) lo hi)

-- by a whole number
pub multiple : (x y : Float) (m Y : ℕ) → HasValue x false m 1 → Is y Y → 0 < m → 0 < Y → 2 ^ 23 * 1 ≤ m * Y → m * Y < limit binary32 * (1 * L) → Rounded (mul binary32 x y) (m * Y) 1
multiple x y m Y h k p q lo hi =
    subst (λ (z : Float). Rounded z (m * Y) 1) (sym (mul_at binary32 x y m 1 Y L (above x m 1 h p) (above y Y L k q) (zero-lt-suc 0) (pow_pos 149) h k))
    (rounds (m * Y) 1 (zero-lt-suc 0) lo hi)

-- of a whole number by itself
pub whole-square : (x : Float) (n : ℕ) → HasValue x false n 1 → 0 < n → 2 ^ 23 * 1 ≤ n * n * L → n * n * L < limit binary32 * (1 * L) → Rounded (mul binary32 x x) (n * n * L) 1
whole-square x n h p lo hi =
    subst (λ (z : Float). Rounded z (n * n * L) 1)
    (sym (mul_at binary32 x x n 1 n 1 (above x n 1 h p) (above x n 1 h p) (zero-lt-suc 0) (zero-lt-suc 0) h h
    ∙ round_same binary32 false (n * n) (1 * 1) (n * n * L) (1 * L) (zero-lt-suc 0) (mul-pos (zero-lt-suc 0) (pow_pos 149)) (same (n * n) L)))
    (rounds (n * n * L) 1 (zero-lt-suc 0) lo hi)
  where
    same : (a L : ℕ) → a * (1 * L) ≡ a * L * (1 * 1)
    same a L = omega arith

-- ---- the quotient
div_is : (x y : Float) → T (positive x) → T (positive y) → div binary32 x y ≡ round binary32 false (num x * den y) (num y * den x)
unfolding div
div_is nan y p q = absurd p
div_is (inf s) y p q = absurd p
div_is (fin true m e) y p q = absurd p
div_is (fin false m e) nan p q = absurd q
div_is (fin false m e) (inf t) p q = absurd q
div_is (fin false m e) (fin true n d) p q = absurd q
div_is (fin false m e) (fin false zero d) p q = absurd q
div_is (fin false m e) (fin false (suc n) d) p q =
    ap (λ (b : Bool). cond b (cond (eqb m 0) nan (inf false)) (round binary32 false (m * up e * down d) (suc n * up d * down e))) (eqb-suc-zero n)

pub quotient : (x y : Float) (X Y : ℕ) → Is x X → Is y Y → 0 < X → 0 < Y → 2 ^ 23 * Y ≤ X * L → X * L < limit binary32 * (Y * L) → Rounded (div binary32 x y) (X * L) Y
quotient x y X Y h k p q lo hi =
    subst (λ (z : Float). Rounded z (X * L) Y)
    (sym (div_is x y (above x X L h p) (above y Y L k q)
    ∙ round_same binary32 false (num x * den y) (num y * den x) (X * L) (Y * L)
    (mul-pos (num_pos y Y k q) (den_pos x)) (mul-pos q (pow_pos 149))
    (same (num x) (den x) (num y) (den y) X Y L (value→cross x X L h) (value→cross y Y L k))))
    (rounds (X * L) Y q lo hi)
  where
    num_pos : (y : Float) (Y : ℕ) → Is y Y → 0 < Y → 0 < num y
    num_pos (fin t n d) Y k q = lib.Ieee.Positive.first_pos (n * up d) L (subst (λ (z : ℕ). 0 < z) (sym k.1) (mul-pos q (down_pos d)))
    num_pos nan Y k q = absurd k
    num_pos (inf t) Y k q = absurd k

    same : (a b c d X Y L : ℕ) → a * L ≡ X * b → c * L ≡ Y * d → a * d * (Y * L) ≡ X * L * (c * b)
    same a b c d X Y L e f =
        let p = ap (λ (z : ℕ). z * (Y * d)) e in
        let q = ap (λ (z : ℕ). z * (X * b)) f in
        omega arith

-- ---- the root
twice : (r a : ℕ) → ℕ
twice r a = cond (eqb (r * r) a) (2 * r) (2 * r + 1)

-- The root of S units is the root of a = S * L; twice it, T, is cut to a whole number or to one and a half. Its square is 4 * a but for a 2 ^ -24 of it.
pub record Twice (a T : ℕ) : Type 0 where
  pub low : 4 * a * (2 ^ 24 - 1) ≤ T * T * 2 ^ 24
  pub high : T * T * 2 ^ 24 ≤ 4 * a * (2 ^ 24 + 1)

twice-is : (r a : ℕ) → Root a r → 2 ^ 25 ≤ r → Twice a (twice r a)
unfolding twice
twice-is r a h l = go (eqb (r * r) a) (eqb→eq (r * r) a)
  where
    b : 2 ^ 25 * r ≤ r * r
    b = mul-le-mul_right r l

    go : (t : Bool) → (T t → r * r ≡ a) → Twice a (cond t (2 * r) (2 * r + 1))
    go true e = let x = e tt in let y : 2 * r * (2 * r) ≡ 4 * (r * r) = omega arith in record { low = omega arith; high = omega arith }
    go false e =
        let x = h.0 in
        let y = Rattle.scalar.proofs.WholeRoot.square r in
        let z = h.1 in
        let k = b in
        let w : (2 * r + 1) * (2 * r + 1) ≡ 4 * (r * r) + 4 * r + 1 = omega arith in
        record { low = omega arith; high = omega arith }

twice-range : (r a lo hi : ℕ) → lo ≤ r → r < hi → (2 * lo ≤ twice r a) × (twice r a ≤ 2 * hi)
unfolding twice
twice-range r a lo hi p q = go (eqb (r * r) a)
  where
    go : (t : Bool) → (2 * lo ≤ cond t (2 * r) (2 * r + 1)) × (cond t (2 * r) (2 * r + 1) ≤ 2 * hi)
    go true = (omega arith, omega arith)
    go false = (omega arith, omega arith)

pub record RootOf (x : Float) (a : ℕ) : Type 0 where
  pub doubled : ℕ
  pub is : Twice a doubled
  pub least : 2 ^ 140 ≤ doubled
  pub most : doubled ≤ 2 ^ 151
  pub rounded : Rounded x doubled 2

pub root-of : (s : Float) (S : ℕ) → Is s S → 2 ^ 129 ≤ S → S ≤ 2 ^ 149 → RootOf (sqrt_of s) (S * L)
unfolding root_of_units twice
root-of s S h lo hi =
    let a = S * L in
    let r = root a in
    let k = root_is a in
    let l : 2 ^ 139 ≤ r = root_ge a r (2 ^ 139) k.1 (le_trans (lit≤ {n = 2 ^ 129 * L} tt) (mul-le-mul_right L lo)) in
    let m : r < 2 ^ 150 = root-lt a r (2 ^ 150) k.0 (lt_of_le_of_lt (mul-le-mul_right L hi) (lit< tt)) in
    let t = twice-range r a (2 ^ 139) (2 ^ 150) l m in
    let b = twice-is r a k (le_trans (lit≤ {n = 2 ^ 139} tt) l) in
    record {
      doubled = twice r a;
      is = b;
      least = t.0;
      most = t.1;
      rounded = subst (λ (z : Float). Rounded z (twice r a) 2) (sym (sqrt-at s S h (lt_of_lt_of_le (pow_pos 129) lo))) (rounds (twice r a) 2 (zero-lt-suc 1) (le_trans (lit≤ {n = 2 * 2 ^ 139} tt) t.0) (lt_of_le_of_lt t.1 (lit< tt)));
    }

-- ---- the cut, and the order
pub cut : (x : Float) (P n : ℕ) → Is x P → n * L ≤ P → P < suc n * L → n ≤ 2 ^ 31 - 1 → trunc_of x ≡ pos n
unfolding trunc_of
cut nan P n h lo hi b = absurd h
cut (inf s) P n h lo hi b = absurd h
cut (fin true m e) P n h lo hi b = absurd (mathlib.Core.Bool.true≢false h.0)
cut (fin false m e) P n h lo hi b =
    let x : m * up e / down e ≡ n = div-eq_of_lt-le (down e) (under (m * up e) (down e) P n L (pow_pos 149) h.1 lo) (over (m * up e) (down e) P n L (down_pos e) h.1 hi) in
    ap (λ (z : ℕ). pos (Prim.Native.Nat.min z (2 ^ 31 - 1))) x ∙ ap pos (min-eq_left b)
  where
    under : (u d P n L : ℕ) → 0 < L → u * L ≡ P * d → n * L ≤ P → n * d ≤ u
    under u d P n L p e l = le_of_mul-le-mul_right {k = L} (let k = mul-le-mul_right d l in omega arith) p

    over : (u d P n L : ℕ) → 0 < d → u * L ≡ P * d → P < suc n * L → u < (n + 1) * d
    over u d P n L p e l = lt_of_mul-lt-mul_right L (let k = native.Mathlib.Nat.mul-lt-mul_of_pos_right l p in omega arith)

pub ordered : (x y : Float) (X Y : ℕ) → Is x X → Is y Y → 0 < X → 0 < Y → T (le x y) → X ≤ Y
ordered x y X Y h k p q l = le_of_mul-le-mul_right {k = L} (values_of_le x y X L Y L (above x X L h p) (above y Y L k q) h k l) (pow_pos 149)
