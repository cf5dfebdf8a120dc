-- The text of a number by its kind.
use Prim.Native.Nat.{ℕ, zero, suc, ◌*◌, ◌^◌, ◌≤◌}
use mathlib.Core.Path.{◌≡◌, refl, ap, ◌∙◌}
use mathlib.Core.Bool.{true, false}
use mathlib.Core.List.{◌++◌}
use native.Mathlib.Omega.{arith}
use lib.Ieee.{Float, nan, inf, fin, up, down}
use Rattle.figures.specs.Nearest.{nearest, times_of}
use Rattle.lines.specs.Ascii.{ascii}
use Rattle.lines.specs.Aligned.{right}
use Rattle.figures.specs.declared.decimal_text.NumberKind.{NumberKind}
use Rattle.figures.specs.Number.{placed_text, signed_text, written_of, number_text, number_kind_of}
use Rattle.figures.proofs.decimal_text.Widths.{kept}

pub no_minus : (places n : ℕ) → n ≡ 0 → placed_text places n ≡ signed_text true places n
unfolding signed_text
no_minus places zero e = refl
no_minus places (suc n) e = absurd (omega arith)

pub some-minus : (places n : ℕ) → (n ≡ 0 → ⊥) → ascii "-" ++ placed_text places n ≡ signed_text true places n
unfolding signed_text
some-minus places zero h = absurd (h refl)
some-minus places (suc n) h = refl

other : {A : Type 0} → ◌≡◌ {A = ℕ} 0 1 → A
other z = absurd (omega arith)

pub nan-text : (width places : ℕ) (v : Float) → number_kind_of v ≡ NumberKind.NotANumber → right width (ascii "NaN") ≡ number_text width places v
unfolding number_kind_of number_text written_of
nan-text width places nan e = refl
nan-text width places (inf false) e = other (cc)
nan-text width places (inf true) e = other (cc)
nan-text width places (fin false m x) e = other (cc)
nan-text width places (fin true m x) e = other (cc)

pub infinity-text : (width places : ℕ) (v : Float) → number_kind_of v ≡ NumberKind.Infinity → right width (ascii "inf") ≡ number_text width places v
unfolding number_kind_of number_text written_of
infinity-text width places nan e = other (cc)
infinity-text width places (inf false) e = refl
infinity-text width places (inf true) e = other (cc)
infinity-text width places (fin false m x) e = other (cc)
infinity-text width places (fin true m x) e = other (cc)

pub minus-infinity-text : (width places : ℕ) (v : Float) → number_kind_of v ≡ NumberKind.MinusInfinity → right width (ascii "-inf") ≡ number_text width places v
unfolding number_kind_of number_text written_of
minus-infinity-text width places nan e = other (cc)
minus-infinity-text width places (inf false) e = other (cc)
minus-infinity-text width places (inf true) e = refl
minus-infinity-text width places (fin false m x) e = other (cc)
minus-infinity-text width places (fin true m x) e = other (cc)

-- a finite number, from its units as they are kept
pub plus-text : (width places n : ℕ) (v : Float) → width ≤ 10 → places ≤ 9 → n ≡ times_of (10 ^ places) v → number_kind_of v ≡ NumberKind.Plus → right width (signed_text false places n) ≡ number_text width places v
unfolding number_kind_of number_text written_of times_of
plus-text width places n nan w h t e = other (cc)
plus-text width places n (inf false) w h t e = other (cc)
plus-text width places n (inf true) w h t e = other (cc)
plus-text width places n (fin false m x) w h t e = ap (λ (k : ℕ). right width (signed_text false places k)) t ∙ kept false width places (nearest (10 ^ places * m * up x) (down x)) w h
plus-text width places n (fin true m x) w h t e = other (cc)

pub minus-text : (width places n : ℕ) (v : Float) → width ≤ 10 → places ≤ 9 → n ≡ times_of (10 ^ places) v → number_kind_of v ≡ NumberKind.Minus → right width (signed_text true places n) ≡ number_text width places v
unfolding number_kind_of number_text written_of times_of
minus-text width places n nan w h t e = other (cc)
minus-text width places n (inf false) w h t e = other (cc)
minus-text width places n (inf true) w h t e = other (cc)
minus-text width places n (fin false m x) w h t e = other (cc)
minus-text width places n (fin true m x) w h t e = ap (λ (k : ℕ). right width (signed_text true places k)) t ∙ kept true width places (nearest (10 ^ places * m * up x) (down x)) w h
