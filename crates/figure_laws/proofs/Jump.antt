-- The nearest whole number is at most a half away, so two of them are at most one further apart than their fractions; and it does not fall where the fraction does not. A number with a minus that prints 0.0 has a size whose nearest number of tenths is 0.
use mathlib.Core.Bool.{Bool, true, false, cond}
use mathlib.Core.Path.{◌≡◌, refl}
use Prim.Native.Nat.{ℕ, zero, suc, ◌+◌, ◌*◌, ◌≤◌, ◌<◌}
use native.Mathlib.Nat.{mul-le-mul_right, le_of_mul-le-mul_right, le_antisymm, mul-pos}
use native.Mathlib.Omega.{arith}
use borrow.Author.Tests.{ltb-true, ltb-false}
use lib.Dec.{leb, ltb, leb→le}
use lib.IntN.{ℤ}
use lib.Ieee.{nan, inf, fin, up, down, of_bits}
use lib.Ieee.Fits.{down_pos}
use Rattle.rounding.specs.TiesToEven.{gap}
use Rattle.figures.specs.declared.Printed.{Printed}
use Rattle.figures.specs.Figure.{signed_tenths, figure_of}
use Rattle.figures.specs.Nearest.{nearest}
use Rattle.figures.proofs.HalfToEven.{nearest-is, nearest-same, below_half}
use Rattle.figure_laws.specs.Jump.{Within, NotAbove, Jump, Keeps, Reached}

-- ---- fractions x / c and y / k, and the nearest numbers a and b

near : (x c y k a b d : ℕ) → 0 < c → 0 < k → 2 * gap (a * c) x ≤ c → 2 * gap (b * k) y ≤ k → x * k ≤ y * c + d * (c * k) → a ≤ b + d + 1
near x c y k a b d hc hk p q h =
    let s : 2 * (a * c) ≤ 2 * x + c = omega arith in
    let t : 2 * y ≤ 2 * (b * k) + k = omega arith in
    let u = mul-le-mul_right k s in
    let v = mul-le-mul_right c t in
    let w : a * (c * k) ≤ (b + d + 1) * (c * k) = omega arith in
    le_of_mul-le-mul_right w (mul-pos hc hk)

rises : (x c y k : ℕ) → 0 < c → 0 < k → x * k ≤ y * c → nearest x c ≤ nearest y k
rises x c y k hc hk h = by (ltb (nearest y k) (nearest x c)) refl
  where
    back : (a b : ℕ) → 2 * gap (a * c) x ≤ c → 2 * gap (b * k) y ≤ k → b < a → y * c ≤ x * k
    back a b p q l =
        let s : 2 * (a * c) ≤ 2 * x + c = omega arith in
        let t : 2 * y ≤ 2 * (b * k) + k = omega arith in
        let u = mul-le-mul_right k s in
        let v = mul-le-mul_right c t in
        let w = mul-le-mul_right (c * k) l in
        omega arith

    by : (b : Bool) → ltb (nearest y k) (nearest x c) ≡ b → nearest x c ≤ nearest y k
    by false e = ltb-false _ _ e
    by true e =
        let l = ltb-true (nearest y k) (nearest x c) e in
        let o = back (nearest x c) (nearest y k) (nearest-is x c hc).within (nearest-is y k hk).within l in
        let s = nearest-same x c y k hc hk (le_antisymm h o) in
        omega arith

-- ---- what is printed as tenths

printed-size : (s : Bool) (n a : ℕ) → signed_tenths s n ≡ Printed.Tenths a → n ≡ a
printed-size false n a e = by (leb n 9999) e
  where
    by : (b : Bool) → cond b (Printed.Tenths n) Printed.Stars ≡ Printed.Tenths a → n ≡ a
    by true e = cc
    by false e = absurd (let z : ◌≡◌ {A = ℕ} 0 1 = cc in omega arith)
printed-size true zero a e = cc
printed-size true (suc n) a e = by (leb (suc n) 999) e
  where
    by : (b : Bool) → cond b (Printed.Minus (suc n)) Printed.Stars ≡ Printed.Tenths a → suc n ≡ a
    by true e = absurd (let z : ◌≡◌ {A = ℕ} 0 1 = cc in omega arith)
    by false e = absurd (let z : ◌≡◌ {A = ℕ} 0 1 = cc in omega arith)

printed-minus : (n a : ℕ) → signed_tenths true n ≡ Printed.Tenths a → a ≡ 0
printed-minus zero a e = cc
printed-minus (suc n) a e = by (leb (suc n) 999) e
  where
    by : (b : Bool) → cond b (Printed.Minus (suc n)) Printed.Stars ≡ Printed.Tenths a → a ≡ 0
    by true e = absurd (let z : ◌≡◌ {A = ℕ} 0 1 = cc in omega arith)
    by false e = absurd (let z : ◌≡◌ {A = ℕ} 0 1 = cc in omega arith)

-- the figure's tenths are at most a half from ten times the size
half : (m : ℕ) (e : ℤ) (s : Bool) (a : ℕ) → figure_of (fin s m e) ≡ Printed.Tenths a → 2 * gap (a * down e) (10 * m * up e) ≤ down e
unfolding figure_of
half m e s a p = rw (← printed-size s _ a p) (nearest-is (10 * m * up e) (down e) (down_pos e)).within

minus : (m : ℕ) (e : ℤ) (a : ℕ) → figure_of (fin true m e) ≡ Printed.Tenths a → a ≡ 0
unfolding figure_of
minus m e a p = printed-minus (nearest (10 * m * up e) (down e)) a p

-- ---- the laws

-- x and y over the denominators c and k: ten times a size, and how far apart
both : (m x c n y k a b d : ℕ) → 0 < c → 0 < k → 2 * gap (a * c) (10 * m * x) ≤ c → 2 * gap (b * k) (10 * n * y) ≤ k → 10 * gap (m * x * k) (n * y * c) ≤ d * (c * k) → gap a b ≤ d + 1
both m x c n y k a b d hc hk p q h =
    ends a b d
    (near (10 * m * x) c (10 * n * y) k a b d hc hk p q (omega arith))
    (near (10 * n * y) k (10 * m * x) c b a d hk hc q p (omega arith))
  where
    ends : (a b d : ℕ) → a ≤ b + d + 1 → b ≤ a + d + 1 → gap a b ≤ d + 1
    ends a b d u v = omega arith

-- a size on the other side of zero, whose figure is 0
across : (m x c n y k a d : ℕ) → 0 < c → 0 < k → 2 * gap (a * c) (10 * m * x) ≤ c → 2 * gap (0 * k) (10 * n * y) ≤ k → 10 * (m * x * k + n * y * c) ≤ d * (c * k) → a ≤ d + 1
across m x c n y k a d hc hk p q h = let u = near (10 * m * x) c (10 * n * y) k a 0 d hc hk p q (omega arith) in omega arith

jumps : (s t : Bool) (m : ℕ) (e : ℤ) (n : ℕ) (f : ℤ) (d a b : ℕ) → figure_of (fin s m e) ≡ Printed.Tenths a → figure_of (fin t n f) ≡ Printed.Tenths b → Within d (fin s m e) (fin t n f) → gap a b ≤ d + 1
jumps false false m e n f d a b p q h = both m (up e) (down e) n (up f) (down f) a b d (down_pos e) (down_pos f) (half m e false a p) (half n f false b q) h
jumps false true m e n f d a b p q h =
    let z = minus n f b q in
    let k = half n f true b q in
    let u = across m (up e) (down e) n (up f) (down f) a d (down_pos e) (down_pos f) (half m e false a p) (rw z at k) h in
    omega arith
jumps true false m e n f d a b p q h =
    let z = minus m e a p in
    let k = half m e true a p in
    let u = across n (up f) (down f) m (up e) (down e) b d (down_pos f) (down_pos e) (half n f false b q) (rw z at k) (turned (down e) (down f) (m * up e * down f) (n * up f * down e) h) in
    omega arith
  where
    turned : (c k x y : ℕ) → 10 * (x + y) ≤ d * (c * k) → 10 * (y + x) ≤ d * (k * c)
    turned c k x y h = omega arith
jumps true true m e n f d a b p q h = let z = minus m e a p in let w = minus n f b q in omega arith

pub jump : Jump
jump nan w d a b p q h = absurd h
jump (inf s) w d a b p q h = absurd h
jump (fin s m e) nan d a b p q h = absurd h
jump (fin s m e) (inf t) d a b p q h = absurd h
jump (fin s m e) (fin t n f) d a b p q h = jumps s t m e n f d a b p q h

-- tenths of a size, by the nearest number
size : (m : ℕ) (e : ℤ) (a : ℕ) → figure_of (fin false m e) ≡ Printed.Tenths a → nearest (10 * m * up e) (down e) ≡ a
unfolding figure_of
size m e a p = printed-size false (nearest (10 * m * up e) (down e)) a p

tenfold : (m x k n y c : ℕ) → m * x * k ≤ n * y * c → 10 * m * x * k ≤ 10 * n * y * c
tenfold m x k n y c h = omega arith

keep : (s t : Bool) (m : ℕ) (e : ℤ) (n : ℕ) (f : ℤ) (a b : ℕ) → figure_of (fin s m e) ≡ Printed.Tenths a → figure_of (fin t n f) ≡ Printed.Tenths b → NotAbove (fin s m e) (fin t n f) → a ≤ b
keep false false m e n f a b p q h =
    let r = rises (10 * m * up e) (down e) (10 * n * up f) (down f) (down_pos e) (down_pos f) (tenfold m (up e) (down f) n (up f) (down e) h) in
    let u = size m e a p in
    let v = size n f b q in
    omega arith
keep false true m e n f a b p q h =
    let r = rises (10 * m * up e) (down e) 0 (down f) (down_pos e) (down_pos f) (zeros m (up e) (down f) (down e) h.0) in
    let o = below_half 0 (down f) (down_pos f) in
    let u = size m e a p in
    omega arith
  where
    zeros : (m x k c : ℕ) → m * x * k ≡ 0 → 10 * m * x * k ≤ 0 * c
    zeros m x k c z = omega arith
keep true t m e n f a b p q h = let z = minus m e a p in omega arith

pub keeps : Keeps
keeps nan w a b p q h = absurd h
keeps (inf s) w a b p q h = absurd h
keeps (fin s m e) nan a b p q h = absurd h
keeps (fin s m e) (inf t) a b p q h = absurd h
keeps (fin s m e) (fin t n f) a b p q h = keep s t m e n f a b p q h

pub reached : Reached
unfolding figure_of nearest of_bits
reached = record { lower = refl; upper = refl; five = leb→le _ _ tt }
