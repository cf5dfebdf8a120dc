-- `scalar::trunc` meets its contract: each way out is a lemma of `proofs/Truncation.antt`, at the pattern of x. Assumes nothing.
use mathlib.Core.Path.{◌≡◌, refl, sym, ap, ◌∙◌, subst}
use mathlib.Core.Bool.{true, false, not}
use Prim.Native.Nat.{ℕ, min, ◌-◌, zero, suc, ◌+◌, ◌*◌, ◌%◌, ◌/◌, ◌^◌, ◌<◌}
use native.Mathlib.Omega.{arith}
use lib.IntN.{ℤ, pos, neg_ℤ, ◌-ℤ◌, +ℤ_idl}
use lib.Dec.{T}
use lib.Signed.{mag}
use mir.Syntax.{w32}
use mir.Val.{SFits, to_z}
use mir.Facts.{to_z-of_z, to_z_pos}
use lib.Ieee.{Float, nan, fits, ne, binary32, is_nan, of_bits, to_bits}
use lib.Ieee.Bits.{of_bits-to_bits}
use Rattle.std.proofs.lemmas.Float.{T_from_true}
use borrow.Author.Tests.{le-leb, lt-leb}
use Rattle.scalar.specs.Scalar.{trunc_of}
use Rattle.scalar.proofs.Nan.{tested, differs, not-nan}
use Rattle.scalar.proofs.Truncation.{Cut, cut-end, cut-under}
use Rattle.scalar.proofs.trunc.Goals as goal

nan-cut : pos 0 ≡ trunc_of nan
unfolding trunc_of
nan-cut = refl

-- an f32 is what its pattern stands for, since the format holds it
is : (x : Float) → fits binary32 x ≡ true → of_bits binary32 (to_bits binary32 x) ≡ x
is x h = of_bits-to_bits binary32 x (T_from_true (fits binary32 x) h)

number : (x : Float) → fits binary32 x ≡ true → ne x x ≡ false → T (not (is_nan (of_bits binary32 (to_bits binary32 x))))
number x h e = subst (λ (v : Float). T (not (is_nan v))) (sym (is x h)) (not-nan x e)

-- the whole part, which is an i32 with either sign
abbrev whole : ℕ → ℕ → ℕ
whole b k = (2 ^ 31 + b % 2 ^ 23 * 2 ^ 8) / 2 ^ k

cut : (b p : ℕ) → p ≡ min (158 - b % 2 ^ 31 / 2 ^ 23) 63 → b % 2 ^ 31 < 0x4f00_0000 → Cut b (whole b p)
cut b p e h = subst (λ (k : ℕ). Cut b (whole b k)) (sym e) (cut-under b h)

negated-in : (n : ℕ) → n < 2 ^ 31 → mag (neg_ℤ (pos n)) < 2 ^ 31
negated-in zero h = h
negated-in (suc n) h = omega arith

turned : (n : ℕ) → n < 2 ^ 31 → pos 0 -ℤ to_z w32 n ≡ neg_ℤ (pos n)
turned n h = ap (λ (z : ℤ). pos 0 -ℤ z) (to_z_pos w32 h) ∙ +ℤ_idl (neg_ℤ (pos n))

turned-fits : (n : ℕ) → n < 2 ^ 31 → SFits w32 (pos 0 -ℤ to_z w32 n)
turned-fits n h = record { sfits = subst (λ (z : ℤ). mag z < 2 ^ 31) (sym (turned n h)) (negated-in n h) }

pub returns-then-is_nan : goal.returns-then-is_nan
returns-then-is_nan c = nan-cut ∙ ap trunc_of (sym (differs c.args.x (tested _ _ true c.is_nan.ensures.value c.if-is_nan.true)))

pub float_to_bits-b : goal.float_to_bits-b
float_to_bits-b c = not-nan c.args.x (tested _ _ false c.is_nan.ensures.value c.if-is_nan.false)

pub returns-then-b-lt2147483648 : goal.returns-then-b-lt2147483648
returns-then-b-lt2147483648 c = sym (cut-end false (to_bits binary32 c.args.x) (lt-leb (2 ^ 31) (to_bits binary32 c.args.x) c.if-b-lt2147483648.true) c.if-size-ge1325400064.true (number c.args.x c.well_formed.0.1 (tested _ _ false c.is_nan.ensures.value c.if-is_nan.false))) ∙ ap trunc_of (is c.args.x c.well_formed.0.1)

pub returns-then-size-ge1325400064 : goal.returns-then-size-ge1325400064
returns-then-size-ge1325400064 c = sym (cut-end true (to_bits binary32 c.args.x) (le-leb (2 ^ 31) (to_bits binary32 c.args.x) c.if-b-lt2147483648.false) c.if-size-ge1325400064.true (number c.args.x c.well_formed.0.1 (tested _ _ false c.is_nan.ensures.value c.if-is_nan.false))) ∙ ap trunc_of (is c.args.x c.well_formed.0.1)

pub overflow_cast-result : goal.overflow_cast-result
overflow_cast-result c = record { sfits = (cut (to_bits binary32 c.args.x) c.places.result c.places.ensures c.if-size-ge1325400064.false).under }

pub returns-then-b-lt2147483648-2 : goal.returns-then-b-lt2147483648-2
returns-then-b-lt2147483648-2 c =
    to_z_pos w32 (cut (to_bits binary32 c.args.x) c.places.result c.places.ensures c.if-size-ge1325400064.false).under ∙ sym ((cut (to_bits binary32 c.args.x) c.places.result c.places.ensures c.if-size-ge1325400064.false).is false (lt-leb (2 ^ 31) (to_bits binary32 c.args.x) c.if-b-lt2147483648-2.true)) ∙ ap trunc_of (is c.args.x c.well_formed.0.1)

pub overflow_cast-result-2 : goal.overflow_cast-result-2
overflow_cast-result-2 c = record { sfits = (cut (to_bits binary32 c.args.x) c.places.result c.places.ensures c.if-size-ge1325400064.false).under }

pub overflow_sub-result : goal.overflow_sub-result
overflow_sub-result c = turned-fits (whole (to_bits binary32 c.args.x) c.places.result) (cut (to_bits binary32 c.args.x) c.places.result c.places.ensures c.if-size-ge1325400064.false).under

pub returns : goal.returns
returns c =
    let w = whole (to_bits binary32 c.args.x) c.places.result in
    let h = (cut (to_bits binary32 c.args.x) c.places.result c.places.ensures c.if-size-ge1325400064.false).under in
    to_z-of_z (turned-fits w h) ∙ turned w h ∙ sym ((cut (to_bits binary32 c.args.x) c.places.result c.places.ensures c.if-size-ge1325400064.false).is true (le-leb (2 ^ 31) (to_bits binary32 c.args.x) c.if-b-lt2147483648-2.false)) ∙ ap trunc_of (is c.args.x c.well_formed.0.1)
