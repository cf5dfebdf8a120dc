-- A frequency of zero: each step gives a zero, and so the cell is 0.
use mathlib.Core.Path.{◌≡◌, sym, ap, ◌∙◌, subst}
use mathlib.Core.Logic.{inl, inr}
use mathlib.Core.Bool.{Bool, true, false, cond}
use Prim.Native.Nat.{ℕ, zero, suc, ◌-◌, ◌*◌, ◌/◌, ◌^◌, ◌<◌, min}
use native.Mathlib.Nat.{lt_irrefl, eq-zero-or-pos, zero-mul, mul-zero, zero-div, mul-pos}
use native.Mathlib.Omega.{arith}
use lib.IntN.{pos, neg_ℤ}
use lib.Dec.{T, eqb, ltb, eqb-suc-zero, lit<}
use lib.Pow.{pow_pos}
use lib.Ieee.{Float, nan, inf, fin, binary32, up, down, unlike, round, mul, div, eq, le, fits}
use lib.Ieee.Bits.{is_true}
use lib.Ieee.Fits.{down_pos, up_pos}
use lib.Ieee.Exact.{HasValue, round_exact}
use lib.Ieee.Scale.{finite}
use lib.Ieee.Positive.{positive, above, above_of_le}
use Rattle.scalar.specs.Literals.{f0}
use Rattle.scalar.specs.Scalar.{abs_of, trunc_of}
use Rattle.scalar.proofs.Sign.{plus-zero, at_zero}

-- a zero of either sign
abbrev pub Zero : Float → Type 0
Zero nan = ⊥
Zero (inf s) = ⊥
Zero (fin s m e) = m ≡ 0

pub of-value : (x : Float) (s : Bool) (c : ℕ) → 0 < c → HasValue x s 0 c → Zero x
of-value nan s c p h = h
of-value (inf t) s c p h = h
of-value (fin t m e) s c p h = elim (eq-zero-or-pos m) [ inl z ↦ z | inr k ↦ absurd (lt_irrefl 0 (subst (λ (z : ℕ). 0 < z) (h.1 ∙ zero-mul (down e)) (mul-pos (mul-pos k (up_pos e)) p))) ]

round-zero : (s : Bool) (a c : ℕ) → a ≡ 0 → 0 < c → Zero (round binary32 s a c)
round-zero s a c e p = subst (λ (z : ℕ). Zero (round binary32 s z c)) (sym e) (of-value (round binary32 s 0 c) s c p (round_exact binary32 s 0 c 0 0 p (pow_pos 24) (lit< tt) (sym (zero-mul c))))

pub zero-real : (x : Float) → Zero x → T (finite x)
zero-real nan z = absurd z
zero-real (inf s) z = absurd z
zero-real (fin s m e) z = tt

pub by_zero : (x y : Float) → T (finite x) → Zero y → Zero (mul binary32 x y)
unfolding mul
by_zero nan y f z = absurd f
by_zero (inf s) y f z = absurd f
by_zero (fin s m e) nan f z = absurd z
by_zero (fin s m e) (inf t) f z = absurd z
by_zero (fin s m e) (fin t n d) f z =
    round-zero (unlike s t) (m * up e * (n * up d)) (down e * down d) (ap (λ (k : ℕ). m * up e * (k * up d)) z ∙ ap (λ (k : ℕ). m * up e * k) (zero-mul (up d)) ∙ mul-zero (m * up e)) (mul-pos (down_pos e) (down_pos d))

pub zero-by : (x y : Float) → Zero x → T (finite y) → Zero (mul binary32 x y)
unfolding mul
zero-by nan y z f = absurd z
zero-by (inf s) y z f = absurd z
zero-by (fin s m e) nan z f = absurd f
zero-by (fin s m e) (inf t) z f = absurd f
zero-by (fin s m e) (fin t n d) z f =
    round-zero (unlike s t) (m * up e * (n * up d)) (down e * down d) (ap (λ (k : ℕ). k * up e * (n * up d)) z ∙ ap (λ (k : ℕ). k * (n * up d)) (zero-mul (up e)) ∙ zero-mul (n * up d)) (mul-pos (down_pos e) (down_pos d))

pub zero-over : (x y : Float) → Zero x → T (positive y) → Zero (div binary32 x y)
unfolding div
zero-over nan y z p = absurd z
zero-over (inf s) y z p = absurd z
zero-over (fin s m e) nan z p = absurd p
zero-over (fin s m e) (inf t) z p = absurd p
zero-over (fin s m e) (fin true n d) z p = absurd p
zero-over (fin s m e) (fin false zero d) z p = absurd p
zero-over (fin s m e) (fin false (suc n) d) z p =
    subst (λ (b : Bool). Zero (cond b (cond (eqb m 0) nan (inf (unlike s false))) (round binary32 (unlike s false) (m * up e * down d) (suc n * up d * down e)))) (sym (eqb-suc-zero n))
    (round-zero (unlike s false) (m * up e * down d) (suc n * up d * down e) (ap (λ (k : ℕ). k * up e * down d) z ∙ ap (λ (k : ℕ). k * down d) (zero-mul (up e)) ∙ zero-mul (down d)) (mul-pos (mul-pos (native.Mathlib.Nat.zero-lt-suc n) (up_pos d)) (down_pos e)))

pub trunc-zero : (x : Float) → Zero x → trunc_of x ≡ pos 0
unfolding trunc_of
trunc-zero nan z = absurd z
trunc-zero (inf s) z = absurd z
trunc-zero (fin true m e) z = ap (λ (k : ℕ). neg_ℤ (pos (min k (2 ^ 31)))) (ap (λ (k : ℕ). k * up e / down e) z ∙ ap (λ (k : ℕ). k / down e) (zero-mul (up e)) ∙ zero-div (down e))
trunc-zero (fin false m e) z = ap (λ (k : ℕ). pos (min k (2 ^ 31 - 1))) (ap (λ (k : ℕ). k * up e / down e) z ∙ ap (λ (k : ℕ). k / down e) (zero-mul (up e)) ∙ zero-div (down e))

pub not-at-most : (x y : Float) → T (positive x) → Zero y → T (le x y) → ⊥
not-at-most x y p z h = go y z (above_of_le x y p h)
  where
    go : (y : Float) → Zero y → T (above y) → ⊥
    go nan z t = z
    go (inf s) z t = z
    go (fin true n d) z t = t
    go (fin false n d) z t = subst (λ (k : ℕ). T (ltb 0 k)) z t

pub eq-zero : (x : Float) → T (fits binary32 x) → T (eq x f0) → Zero x
unfolding abs_of
eq-zero x f h = go x (at_zero x f (is_true (eq x (fin false 0 (pos 0))) (subst (λ (z : Float). T (eq x z)) plus-zero h)))
  where
    go : (x : Float) → fin false 0 (pos 0) ≡ abs_of x → Zero x
    go nan e = let z : ◌≡◌ {A = ℕ} 0 1 = cc in omega arith
    go (inf s) e = let z : ◌≡◌ {A = ℕ} 0 1 = cc in omega arith
    go (fin s m d) e = cc
