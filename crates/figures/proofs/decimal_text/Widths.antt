-- How long a number's text is, and that a field has its width.
use Prim.Native.Nat.{ℕ, zero, suc, ◌+◌, ◌-◌, ◌*◌, ◌/◌, ◌^◌, ◌≤◌, ◌<◌, min}
use mathlib.Core.Path.{◌≡◌, refl, ap, sym, ◌∙◌}
use mathlib.Core.Bool.{Bool, true, false}
use mathlib.Core.List.{List, [], ◌++◌}
use native.Mathlib.Nat.{le-div_iff_mul-le}
use native.Mathlib.Omega.{arith}
use borrow.Author.Tests.{leb-true, leb-false, lt-leb}
use lib.Dec.{leb}
use lib.ListN.{length, length-append}
use lib.Ieee.{Float}
use lib.Pow.{pow-add}
use Rattle.io.specs.Digits.{last_digits}
use Rattle.lines.specs.Text.{decimal_of, with_text}
use Rattle.lines.proofs.Placing.{fits}
use Rattle.lines.proofs.Decimals.{length_digits, length-decimal}
use Rattle.lines.proofs.Sizes.{AtMost}
use Rattle.figures.specs.Nearest.{past}
use Rattle.lines.specs.Ascii.{ascii}
use Rattle.lines.specs.Aligned.{star, repeated, right}
use Rattle.lines.proofs.aligned.Widths.{right-width}
use Rattle.figures.specs.Number.{placed_text, signed_text, written_of, number_text, NumberWidth}
use Rattle.figures.proofs.decimal_text.Digits.{some, long}

pub number-width : NumberWidth
unfolding number_text
number-width width places v = right-width width (written_of places v)

pub number-most : (width places : ℕ) (v : Float) → AtMost (number_text width places v) width
number-most width places v = record { most = omega (arith, number-width width places v) }

placed-length : (places n : ℕ) → length (placed_text places n) ≡ length (decimal_of (n / 10 ^ places)) + 1 + places
unfolding placed_text
placed-length places n =
    let a = length-append (decimal_of (n / 10 ^ places)) (ascii "." ++ last_digits 10 places n) in
    let b = length_digits 10 places n in
    omega arith

pub placed-most : (places n : ℕ) → places ≤ 9 → AtMost (placed_text places n) 30
placed-most places n h = record { most = omega (arith, placed-length places n, length-decimal (n / 10 ^ places)) }

-- ---- what is no u32 is too wide for ten characters, exact or kept

module _ (places : ℕ) (h : places ≤ 9) where
  placed-wide : (n : ℕ) → 10 ^ 9 ≤ n → 10 < length (placed_text places n)
  placed-wide n l =
      let e : 10 ^ (9 - places) * 10 ^ places ≡ 10 ^ 9 = sym (pow-add 10 (9 - places) places) ∙ ap (λ (k : ℕ). 10 ^ k) {y = 9} (omega arith) in
      let m : 10 ^ (9 - places) ≤ n / 10 ^ places = (le-div_iff_mul-le (some places)).1 (rw e l) in
      omega (arith, placed-length places n, long (9 - places) (n / 10 ^ places) (omega arith) m)

  signed-wide : (s : Bool) (n : ℕ) → 10 ^ 9 ≤ n → 10 < length (signed_text s places n)
  unfolding signed_text
  signed-wide false n l = placed-wide n l
  signed-wide true zero l = absurd (omega arith)
  signed-wide true (suc n) l = omega (arith, placed-wide (suc n) l)

starred : (width : ℕ) (t : List ℕ) → width ≤ 10 → 10 < length t → right width t ≡ repeated star width
unfolding right
starred width t h l = rw (lt-leb (length t) width (omega arith))

pub kept : (s : Bool) (width places n : ℕ) → width ≤ 10 → places ≤ 9 → right width (signed_text s places (min n past)) ≡ right width (signed_text s places n)
kept s width places n w h = by (leb n past) refl
  where
    by : (b : Bool) → leb n past ≡ b → right width (signed_text s places (min n past)) ≡ right width (signed_text s places n)
    by true e = ap (λ (k : ℕ). right width (signed_text s places k)) (let l = leb-true n past e in omega arith)
    by false e =
        let l = leb-false n past e in
        starred width _ w (signed-wide places h s (min n past) (omega arith)) ∙ sym (starred width _ w (signed-wide places h s n (omega arith)))

-- what is read back from a page of its own that has room
pub alone : (n : ℕ) (t : List ℕ) {new page text : List ℕ} → new ≡ [] → page ≡ with_text n new t → text ≡ page → length t ≤ n → text ≡ t
alone n t e p q l = rw (q, p, e) (fits n t l)
