-- Only NaN differs from itself, which is how the code tests for it; and which patterns are NaN's. Assumes nothing.
use mathlib.Core.Path.{◌≡◌, refl, sym, ap, ap₂, ◌∙◌, subst}
use mathlib.Core.Bool.{Bool, true, false, not, ◌&&◌, ◌||◌}
use Prim.Native.Nat.{ℕ, ◌*◌, ◌%◌, ◌^◌, ◌≤◌, ◌<◌}
use lib.Dec.{T, lit<, eqb, eqb_refl}
use lib.Ieee.{Float, nan, inf, fin, binary32, up, down, div, eq, ne, is_nan, nan_bits, of_bits}
use lib.Ieee.Bits.{is_true, nan_bits_is, nan_bits_above}
use lib.Ieee.Compare.{differs_from_itself}
use Rattle.std.proofs.lemmas.Float.{T_from_true}
use Rattle.rounding.proofs.Units.{same_sign}
use borrow.Author.Tests.{lt-ltb, le-ltb}

pub differs-is-nan : (x : Float) → ne x x ≡ is_nan x
unfolding ne eq is_nan
differs-is-nan nan = refl
differs-is-nan (inf s) = ap not (same_sign s)
differs-is-nan (fin s m e) = let a = m * up e * down e in ap₂ (λ (x y : Bool). not (x && (y || eqb a 0))) (is_true (eqb a a) (eqb_refl a)) (same_sign s)

pub nan-only : (x : Float) → is_nan x ≡ true → x ≡ nan
nan-only x e = differs_from_itself x (T_from_true (ne x x) (differs-is-nan x ∙ e))

-- after the test `x.is_nan()`, with the answer t
pub tested : (x : Float) (r t : Bool) → r ≡ is_nan x → r ≡ t → ne x x ≡ t
tested x r t e f = differs-is-nan x ∙ sym e ∙ f

-- where x differs from itself
pub differs : (x : Float) → ne x x ≡ true → x ≡ nan
differs x e = differs_from_itself x (T_from_true (ne x x) e)

pub not-nan : (x : Float) → ne x x ≡ false → T (not (is_nan x))
not-nan x e = subst (λ (t : Bool). T (not t)) (sym (sym (differs-is-nan x) ∙ e)) tt

-- ---- patterns
pub nan_pattern : (b : ℕ) → 0x7f80_0000 < b % 2 ^ 31 → of_bits binary32 b ≡ nan
nan_pattern b h = nan-only (of_bits binary32 b) (sym (nan_bits_is binary32 b) ∙ nan_bits_above binary32 b ∙ lt-ltb (255 * 2 ^ 23) (b % 2 ^ 31) h)

-- the one that code and definitions write
pub the-nan : of_bits binary32 0x7fc0_0000 ≡ nan
the-nan = nan_pattern 0x7fc0_0000 (lit< tt)

pub number-pattern : (b : ℕ) → b % 2 ^ 31 ≤ 0x7f80_0000 → T (not (nan_bits binary32 b))
number-pattern b h = subst (λ (x : Bool). T (not x)) (sym (nan_bits_above binary32 b ∙ le-ltb (255 * 2 ^ 23) (b % 2 ^ 31) h)) tt

-- how the code makes a NaN
pub zero_by_zero : div binary32 (of_bits binary32 0) (of_bits binary32 0) ≡ nan
unfolding div of_bits
zero_by_zero = refl
