-- From a pattern to the size of its value in units, and `sqrt_of` by that size. Assumes nothing.
use mathlib.Core.Path.{◌≡◌, refl, sym, ap, ◌∙◌, subst}
use mathlib.Core.Bool.{Bool, true, false, cond}
use Prim.Native.Nat.{ℕ, zero, suc, ◌+◌, ◌-◌, ◌*◌, ◌/◌, ◌%◌, ◌^◌, ◌<◌}
use native.Mathlib.Nat.{lt_irrefl, zero-mul, mul-one, mul-pos, mul-div_cancel, mod-eq_of_lt}
use native.Mathlib.Omega.{arith}
use lib.Dec.{leb, eqb, eqb→eq}
use lib.Pow.{pow_pos}
use lib.Ieee.{Float, nan, inf, fin, binary32, up, down, odd, of_fields, of_bits}
use lib.Ieee.Fits.{down_pos}
use lib.Ieee.Bits.{cond_no}
use lib.Ieee.Exact.{HasValue, odd_sign}
use borrow.Author.Tests.{lt-leb}
use Rattle.scalar.specs.Root.{steps, root_of_units, sqrt_of}

-- ---- a value in units, and `sqrt_of` by them and its sign
pub steps-is : (v : Float) (s : Bool) (N : ℕ) → HasValue v s N (2 ^ 149) → steps v ≡ N
steps-is nan s N h = elim h [ ]
steps-is (inf _) s N h = elim h [ ]
steps-is (fin t m e) s N h = ap (λ (x : ℕ). x / down e) h.1 ∙ mul-div_cancel N (down_pos e)

some : (m u l N d : ℕ) → m ≡ 0 → 0 < N → 0 < d → m * u * l ≡ N * d → ⊥
some m u l N d z n p e = lt_irrefl 0 (subst (λ (x : ℕ). 0 < x) (sym e ∙ ap (λ (x : ℕ). x * u * l) z ∙ ap (λ (x : ℕ). x * l) (zero-mul u) ∙ zero-mul l) (mul-pos n p))

pub sqrt-at : (v : Float) (N : ℕ) → HasValue v false N (2 ^ 149) → 0 < N → sqrt_of v ≡ root_of_units N
unfolding sqrt_of
sqrt-at nan N h p = elim h [ ]
sqrt-at (inf _) N h p = elim h [ ]
sqrt-at (fin s zero e) N h p = absurd (some 0 (up e) (2 ^ 149) N (down e) refl p (down_pos e) h.1)
sqrt-at (fin true (suc m) e) N h p = absurd (mathlib.Core.Bool.true≢false h.0)
sqrt-at (fin false (suc m) e) N h p = ap (λ (x : ℕ). root_of_units x) (steps-is (fin false (suc m) e) false N h)

pub sqrt_negative : (v : Float) (N : ℕ) → HasValue v true N (2 ^ 149) → 0 < N → sqrt_of v ≡ nan
unfolding sqrt_of
sqrt_negative nan N h p = elim h [ ]
sqrt_negative (inf _) N h p = elim h [ ]
sqrt_negative (fin s zero e) N h p = absurd (some 0 (up e) (2 ^ 149) N (down e) refl p (down_pos e) h.1)
sqrt_negative (fin true (suc m) e) N h p = refl
sqrt_negative (fin false (suc m) e) N h p = absurd (mathlib.Core.Bool.false≢true h.0)

-- ---- what a pattern stands for
pub of_bits_is : (b : ℕ) → of_bits binary32 b ≡ of_fields binary32 (leb (2 ^ 31) b) (b % 2 ^ 31 / 2 ^ 23) (b % 2 ^ 23)
unfolding of_bits
of_bits_is b = refl

pub fields-low : (s : Bool) (t : ℕ) → HasValue (of_fields binary32 s 0 t) s t (2 ^ 149)
unfolding of_fields
fields-low s t = subst (λ (x : ℕ). HasValue (odd 24 s t 0 149) s x (2 ^ 149)) (mul-one t) (odd_sign 24 s t 0 149)

pub fields-mid : (s : Bool) (x t : ℕ) → suc x < 255 → HasValue (of_fields binary32 s (suc x) t) s ((2 ^ 23 + t) * 2 ^ x) (2 ^ 149)
unfolding of_fields
fields-mid s x t h =
    subst (λ (v : Float). HasValue v s ((2 ^ 23 + t) * 2 ^ x) (2 ^ 149))
    (sym (cond_no (eqb (suc x) 255) (cond (eqb t 0) (inf s) nan) (odd 24 s (2 ^ 23 + t) x 149) (lib.Dec.not_T (eqb (suc x) 255) (λ u. no_eq (suc x) h (eqb→eq (suc x) 255 u)))))
    (odd_sign 24 s (2 ^ 23 + t) x 149)
  where
    no_eq : (x : ℕ) → x < 255 → x ≡ 255 → ⊥
    no_eq x h e = omega arith

-- a pattern below the sign's bit
pub plain : (b : ℕ) → b < 2 ^ 31 → of_bits binary32 b ≡ of_fields binary32 false (b / 2 ^ 23) (b % 2 ^ 23)
plain b h =
    of_bits_is b
    ∙ ap (λ (s : Bool). of_fields binary32 s (b % 2 ^ 31 / 2 ^ 23) (b % 2 ^ 23)) (lt-leb (2 ^ 31) b h)
    ∙ ap (λ (x : ℕ). of_fields binary32 false (x / 2 ^ 23) (b % 2 ^ 23)) (mod-eq_of_lt h)

-- ---- the root of a pattern above zero and below +infinity's: by its digits, with the leading one where the exponent's field has it
under-inf : (b : ℕ) → b < 0x7f80_0000 → b < 2 ^ 31
under-inf b h = omega arith

pub sqrt-subnormal : (b : ℕ) → 0 < b → b < 0x7f80_0000 → b / 2 ^ 23 ≡ 0 → sqrt_of (of_bits binary32 b) ≡ root_of_units b
sqrt-subnormal b p l z =
    sqrt-at (of_bits binary32 b) b
    (subst (λ (v : Float). HasValue v false b (2 ^ 149)) (sym (plain b (under-inf b l) ∙ ap (λ (x : ℕ). of_fields binary32 false x (b % 2 ^ 23)) z ∙ ap (λ (x : ℕ). of_fields binary32 false 0 x) (all b z))) (fields-low false b))
    p
  where
    all : (b : ℕ) → b / 2 ^ 23 ≡ 0 → b % 2 ^ 23 ≡ b
    all b z = omega arith

pub sqrt-normal : (b : ℕ) → b < 0x7f80_0000 → 0 < b / 2 ^ 23 → sqrt_of (of_bits binary32 b) ≡ root_of_units ((2 ^ 23 + b % 2 ^ 23) * 2 ^ (b / 2 ^ 23 - 1))
sqrt-normal b l p = go (b / 2 ^ 23) refl p
  where
    small : (b x : ℕ) → b < 0x7f80_0000 → b / 2 ^ 23 ≡ x → x < 255
    small b x l e = omega arith

    lead : (t : ℕ) → 0 < 2 ^ 23 + t
    lead t = omega arith

    none : 0 < 0 → ⊥
    none h = omega arith

    less : (x : ℕ) → x ≡ suc x - 1
    less x = omega arith

    go : (x : ℕ) → b / 2 ^ 23 ≡ x → 0 < x → sqrt_of (of_bits binary32 b) ≡ root_of_units ((2 ^ 23 + b % 2 ^ 23) * 2 ^ (x - 1))
    go zero e h = absurd (none h)
    go (suc x) e h =
        let t = b % 2 ^ 23 in
        let N = (2 ^ 23 + t) * 2 ^ x in
        sqrt-at (of_bits binary32 b) N
        (subst (λ (v : Float). HasValue v false N (2 ^ 149)) (sym (plain b (under-inf b l) ∙ ap (λ (y : ℕ). of_fields binary32 false y t) e)) (fields-mid false x t (small b (suc x) l e)))
        (mul-pos (lead t) (pow_pos x))
        ∙ ap (λ (y : ℕ). root_of_units ((2 ^ 23 + t) * 2 ^ y)) (less x)
