-- The cut to an i32 by the pattern. A normal float is d * 2 ^ x units of 2 ^ -149, for a d of 24 digits: from 2 ^ 31 on where x is 157 or more, else its whole part is d * 2 ^ 8 / 2 ^ k with x + k = 157. That is 0 where k is above 31, and then every larger k will do. Assumes nothing.
use mathlib.Core.Path.{◌≡◌, refl, sym, ap, ap₂, ◌∙◌, subst}
use mathlib.Core.Logic.{◌⊎◌, inl, inr}
use mathlib.Core.Bool.{Bool, true, false, not, cond, true≢false, false≢true}
use Prim.Native.Nat.{ℕ, zero, suc, ◌+◌, ◌-◌, ◌*◌, ◌/◌, ◌%◌, ◌^◌, ◌≤◌, ◌<◌, min}
use native.Mathlib.Nat.{le_of_eq, le-add_right, le_trans, lt_of_lt_of_le, eq-or-lt_of_le, mul_comm, mul_assoc, mul-le-mul, mul-div-mul_right, div-eq_of_lt, le-div_iff_mul-le, div-lt_iff_lt-mul}
use native.Mathlib.Omega.{arith}
use lib.IntN.{ℤ, pos, negsuc, neg_ℤ}
use lib.Dec.{T, leb, ltb, eqb-suc-zero, ltb→lt, nltb→le}
use lib.Pow.{pow-add, pow_pos, pow_mono, shl_lt}
use lib.Ieee.{Float, nan, inf, fin, binary32, up, down, is_nan, of_fields, of_bits, to_signed}
use lib.Ieee.Fits.{down_pos}
use lib.Ieee.Exact.{HasValue}
use Rattle.scalar.specs.Scalar.{trunc_of}
use Rattle.scalar.specs.Laws.{TruncIsCast}
use Rattle.scalar.proofs.Patterns.{of_bits_is, fields-low, fields-mid}

-- The paper's rule is lib.Ieee's cut to 31 digits and a sign.
pub trunc-is-cast : TruncIsCast
unfolding trunc_of to_signed
trunc-is-cast nan = refl
trunc-is-cast (inf true) = refl
trunc-is-cast (inf false) = refl
trunc-is-cast (fin true m e) = refl
trunc-is-cast (fin false m e) = refl

-- ---- `trunc_of` by a value's sign and units
abbrev kept : Bool → ℕ → ℤ
kept true q = neg_ℤ (pos (min q (2 ^ 31)))
kept false q = pos (min q (2 ^ 31 - 1))

whole : (a d N L : ℕ) → 0 < d → 0 < L → a * L ≡ N * d → a / d ≡ N / L
whole a d N L p q e = sym (mul-div-mul_right a d q) ∙ ap₂ (λ (x y : ℕ). x / y) e (mul_comm d L) ∙ mul-div-mul_right N L p

trunc-at : (v : Float) (s : Bool) (N : ℕ) → HasValue v s N (2 ^ 149) → trunc_of v ≡ kept s (N / 2 ^ 149)
unfolding trunc_of
trunc-at nan s N h = elim h [ ]
trunc-at (inf _) s N h = elim h [ ]
trunc-at (fin true m e) true N h = ap (λ (q : ℕ). kept true q) (whole (m * up e) (down e) N (2 ^ 149) (down_pos e) (pow_pos 149) h.1)
trunc-at (fin true m e) false N h = absurd (true≢false h.0)
trunc-at (fin false m e) true N h = absurd (false≢true h.0)
trunc-at (fin false m e) false N h = ap (λ (q : ℕ). kept false q) (whole (m * up e) (down e) N (2 ^ 149) (down_pos e) (pow_pos 149) h.1)

-- ---- by the fields: the digits d, and x, which is the exponent's field less one
digits-high : (t : ℕ) → t < 2 ^ 23 → 2 ^ 23 + t < 2 ^ 24
digits-high t h = omega arith

none : (s : Bool) → kept s 0 ≡ pos 0
none true = refl
none false = refl

below_one : (s : Bool) (x t : ℕ) → x < 127 → t < 2 ^ 23 → trunc_of (of_fields binary32 s x t) ≡ pos 0
below_one s zero t l h = trunc-at (of_fields binary32 s 0 t) s t (fields-low s t) ∙ ap (λ (q : ℕ). kept s q) (div-eq_of_lt (lt_of_lt_of_le h (pow_mono {i = 23} {j = 149} (omega arith)))) ∙ none s
below_one s (suc x) t l h =
    trunc-at (of_fields binary32 s (suc x) t) s ((2 ^ 23 + t) * 2 ^ x) (fields-mid s x t (omega arith))
    ∙ ap (λ (q : ℕ). kept s q) (div-eq_of_lt (lt_of_lt_of_le (shl_lt 24 x (digits-high t h)) (pow_mono {i = 24 + x} {j = 149} (omega arith))))
    ∙ none s

-- the end on the side of the sign
abbrev pub end : Bool → ℤ
end true = negsuc (2 ^ 31 - 1)
end false = pos (2 ^ 31 - 1)

at-end : (s : Bool) (q : ℕ) → 2 ^ 31 ≤ q → kept s q ≡ end s
at-end true q h = ap (λ (n : ℕ). neg_ℤ (pos n)) (go q h)
  where
    go : (q : ℕ) → 2 ^ 31 ≤ q → min q (2 ^ 31) ≡ 2 ^ 31
    go q h = omega arith
at-end false q h = ap pos (go q h)
  where
    go : (q : ℕ) → 2 ^ 31 ≤ q → min q (2 ^ 31 - 1) ≡ 2 ^ 31 - 1
    go q h = omega arith

reaches : (d x : ℕ) → 2 ^ 23 ≤ d → 157 ≤ x → 2 ^ 31 ≤ d * 2 ^ x / 2 ^ 149
reaches d x lo l = (le-div_iff_mul-le (pow_pos 149)).1 (le_trans (le_of_eq (sym (pow-add 2 31 149) ∙ pow-add 2 23 157)) (mul-le-mul lo (pow_mono l)))

infinite : (s : Bool) (t : ℕ) → T (not (is_nan (of_fields binary32 s 255 t))) → trunc_of (of_fields binary32 s 255 t) ≡ end s
unfolding trunc_of of_fields is_nan
infinite true zero h = refl
infinite false zero h = refl
infinite s (suc t) h = absurd (subst (λ (b : Bool). T (not (is_nan (cond b (inf s) nan)))) (eqb-suc-zero t) h)

from_end : (s : Bool) (x t : ℕ) → 158 ≤ x → x ≤ 255 → T (not (is_nan (of_fields binary32 s x t))) → trunc_of (of_fields binary32 s x t) ≡ end s
from_end s zero t lo hi n = absurd (omega arith)
from_end s (suc x) t lo hi n = go (eq-or-lt_of_le hi)
  where
    go : (suc x ≡ 255) ⊎ (suc x < 255) → trunc_of (of_fields binary32 s (suc x) t) ≡ end s
    go (inl e) =
        ap (λ (y : ℕ). trunc_of (of_fields binary32 s y t)) e
        ∙ infinite s t (subst (λ (y : ℕ). T (not (is_nan (of_fields binary32 s y t)))) e n)
    go (inr k) =
        trunc-at (of_fields binary32 s (suc x) t) s ((2 ^ 23 + t) * 2 ^ x) (fields-mid s x t k)
        ∙ at-end s ((2 ^ 23 + t) * 2 ^ x / 2 ^ 149) (reaches (2 ^ 23 + t) x (le-add_right (2 ^ 23) t) (omega arith))

-- below it, with the leading digit at the top of 32
abbrev shifted : ℕ → ℕ → ℕ
shifted x t = (2 ^ 31 + t * 2 ^ 8) / 2 ^ min (158 - x) 63

shift_is : (d x k : ℕ) → x + k ≡ 157 → d * 2 ^ x / 2 ^ 149 ≡ d * 2 ^ 8 / 2 ^ k
shift_is d x k e =
    whole (d * 2 ^ x) (2 ^ 149) (d * 2 ^ 8) (2 ^ k) (pow_pos 149) (pow_pos k)
    (mul_assoc d (2 ^ x) (2 ^ k) ∙ ap (λ (y : ℕ). d * y) (sym (pow-add 2 x k) ∙ ap (λ (y : ℕ). 2 ^ y) e ∙ pow-add 2 8 149) ∙ sym (mul_assoc d (2 ^ 8) (2 ^ 149)))

shifted-lt : (x t : ℕ) → x < 158 → t < 2 ^ 23 → shifted x t < 2 ^ 31
shifted-lt x t l h = (div-lt_iff_lt-mul (pow_pos (min (158 - x) 63))).1 (go (2 ^ min (158 - x) 63) (pow_mono {i = 1} {j = min (158 - x) 63} (omega arith)))
  where
    go : (p : ℕ) → 2 ≤ p → 2 ^ 31 + t * 2 ^ 8 < 2 ^ 31 * p
    go p g = omega arith

shifted-out : (x t : ℕ) → x < 127 → t < 2 ^ 23 → shifted x t ≡ 0
shifted-out x t l h = div-eq_of_lt (lt_of_lt_of_le {m = 2 ^ 32} (omega arith) (pow_mono {i = 32} {j = min (158 - x) 63} (omega arith)))

abbrev pub signed : Bool → ℕ → ℤ
signed true q = neg_ℤ (pos q)
signed false q = pos q

no_sign : (s : Bool) → signed s 0 ≡ pos 0
no_sign true = refl
no_sign false = refl

in-ends : (s : Bool) (q : ℕ) → q < 2 ^ 31 → kept s q ≡ signed s q
in-ends true q h = ap (λ (n : ℕ). neg_ℤ (pos n)) (go q h)
  where
    go : (q : ℕ) → q < 2 ^ 31 → min q (2 ^ 31) ≡ q
    go q h = omega arith
in-ends false q h = ap pos (go q h)
  where
    go : (q : ℕ) → q < 2 ^ 31 → min q (2 ^ 31 - 1) ≡ q
    go q h = omega arith

from_one : (s : Bool) (x t : ℕ) → 127 ≤ x → x < 158 → t < 2 ^ 23 → trunc_of (of_fields binary32 s x t) ≡ signed s (shifted x t)
from_one s zero t lo hi h = absurd (omega arith)
from_one s (suc x) t lo hi h =
    trunc-at (of_fields binary32 s (suc x) t) s ((2 ^ 23 + t) * 2 ^ x) (fields-mid s x t (omega arith))
    ∙ ap (λ (q : ℕ). kept s q) (shift_is (2 ^ 23 + t) x (min (158 - suc x) 63) (omega arith) ∙ ap (λ (y : ℕ). y / 2 ^ min (158 - suc x) 63) (top t))
    ∙ in-ends s (shifted (suc x) t) (shifted-lt (suc x) t hi h)
  where
    top : (t : ℕ) → (2 ^ 23 + t) * 2 ^ 8 ≡ 2 ^ 31 + t * 2 ^ 8
    top t = omega arith

below_end : (s : Bool) (x t : ℕ) → x < 158 → t < 2 ^ 23 → trunc_of (of_fields binary32 s x t) ≡ signed s (shifted x t)
below_end s x t hi h = go (ltb x 127) (ltb→lt x 127) (nltb→le x 127)
  where
    go : (u : Bool) → (T u → x < 127) → (T (not u) → 127 ≤ x) → trunc_of (of_fields binary32 s x t) ≡ signed s (shifted x t)
    go true l k = below_one s x t (l tt) h ∙ sym (ap (λ (q : ℕ). signed s q) (shifted-out x t (l tt) h) ∙ no_sign s)
    go false l k = from_one s x t (k tt) hi h

-- ---- by the pattern
by-fields : (s : Bool) (b : ℕ) → leb (2 ^ 31) b ≡ s → of_bits binary32 b ≡ of_fields binary32 s (b % 2 ^ 31 / 2 ^ 23) (b % 2 ^ 23)
by-fields s b e = of_bits_is b ∙ ap (λ (s : Bool). of_fields binary32 s (b % 2 ^ 31 / 2 ^ 23) (b % 2 ^ 23)) e

pub cut-end : (s : Bool) (b : ℕ) → leb (2 ^ 31) b ≡ s → 0x4f00_0000 ≤ b % 2 ^ 31 → T (not (is_nan (of_bits binary32 b))) → trunc_of (of_bits binary32 b) ≡ end s
cut-end s b e h n =
    ap trunc_of (by-fields s b e)
    ∙ from_end s (b % 2 ^ 31 / 2 ^ 23) (b % 2 ^ 23) (low b h) (high b) (subst (λ (v : Float). T (not (is_nan v))) (by-fields s b e) n)
  where
    low : (b : ℕ) → 0x4f00_0000 ≤ b % 2 ^ 31 → 158 ≤ b % 2 ^ 31 / 2 ^ 23
    low b h = omega arith

    high : (b : ℕ) → b % 2 ^ 31 / 2 ^ 23 ≤ 255
    high b = omega arith

-- w is the whole part of the value of b, and an i32
pub record Cut (b w : ℕ) : Type 0 where
  pub under : w < 2 ^ 31
  pub is : (s : Bool) → leb (2 ^ 31) b ≡ s → trunc_of (of_bits binary32 b) ≡ signed s w

pub cut-under : (b : ℕ) → b % 2 ^ 31 < 0x4f00_0000 → Cut b (shifted (b % 2 ^ 31 / 2 ^ 23) (b % 2 ^ 23))
cut-under b h = record {
  under = shifted-lt (b % 2 ^ 31 / 2 ^ 23) (b % 2 ^ 23) (field b h) (last b);
  is = λ s e. ap trunc_of (by-fields s b e) ∙ below_end s (b % 2 ^ 31 / 2 ^ 23) (b % 2 ^ 23) (field b h) (last b);
}
  where
    field : (b : ℕ) → b % 2 ^ 31 < 0x4f00_0000 → b % 2 ^ 31 / 2 ^ 23 < 158
    field b h = omega arith

    last : (b : ℕ) → b % 2 ^ 23 < 2 ^ 23
    last b = omega arith
