-- The tenths are read back from their text: a digit is one more place, and a space or the point none.
use mathlib.Core.Bool.{Bool, true, false, cond}
use mathlib.Core.List.{List, [], ◌∷◌, ◌++◌}
use mathlib.Core.Path.{◌≡◌, refl, sym, ap, ◌∙◌}
use Prim.Native.Nat.{ℕ, zero, suc, ◌+◌, ◌-◌, ◌*◌, ◌/◌, ◌%◌, ◌^◌, ◌≤◌, ◌<◌}
use native.Mathlib.Nat.{pow-succ'}
use native.Mathlib.Omega.{arith}
use borrow.Author.Tests.{leb-true, lt-ltb, le-ltb, ltb-true}
use lib.Dec.{leb, ltb}
use lib.Ieee.{Float, nan, inf, fin, up, down}
use lib.ListN.{length}
use Rattle.io.specs.Digits.{hex_digit_ascii}
use Rattle.lines.specs.Text.{space, tens_by, decimal_in, decimal_of, joined}
use Rattle.figures.specs.Figure.{signed_tenths, figure_of}
use Rattle.figures.specs.Nearest.{nearest}
use Rattle.figures.specs.declared.Printed.{Printed}
use Rattle.lines.specs.Aligned.{repeated}
use Rattle.figures.specs.FigureText.{point, tenths_text, figure_text}
use Rattle.figures.proofs.figure_text.Widths.{padded}
use Rattle.figure_laws.specs.Text.{Texts}

value : ℕ → List ℕ → ℕ
value acc [] = acc
value acc (c ∷ cs) = value (cond (ltb c 48) acc (acc * 10 + (c - 48))) cs

value-append : (acc : ℕ) (xs ys : List ℕ) → value acc (xs ++ ys) ≡ value (value acc xs) ys
unfolding value
value-append acc [] ys = refl
value-append acc (c ∷ xs) ys = value-append (cond (ltb c 48) acc (acc * 10 + (c - 48))) xs ys

value-glyph : (acc d : ℕ) → d < 10 → value acc (hex_digit_ascii d ∷ []) ≡ acc * 10 + d
unfolding value
value-glyph acc d h = rw (lt-ltb d 10 h, le-ltb (48 + d) 48 (omega arith)) (omega arith)

value_in : (places n : ℕ) → n < 10 ^ places → value 0 (decimal_in places n) ≡ n
unfolding value decimal_in
value_in zero n h = omega arith
value_in (suc places) n h =
    value-append 0 (tens_by (ltb n 10) (decimal_in places (n / 10))) (hex_digit_ascii (n % 10) ∷ [])
    ∙ value-glyph (value 0 (tens_by (ltb n 10) (decimal_in places (n / 10)))) (n % 10) (omega arith)
    ∙ by (ltb n 10) refl (value_in places (n / 10))
  where
    by : (b : Bool) → ltb n 10 ≡ b → (n / 10 < 10 ^ places → value 0 (decimal_in places (n / 10)) ≡ n / 10) → value 0 (tens_by b (decimal_in places (n / 10))) * 10 + n % 10 ≡ n
    by true e k = let l = ltb-true n 10 e in omega arith
    by false e k = let p = pow-succ' 10 places in let r = k (omega arith) in omega arith

value-spaces : (acc n : ℕ) → value acc (repeated space n) ≡ acc
unfolding value repeated joined
value-spaces acc zero = refl
value-spaces acc (suc n) = value-append acc (joined (λ i. space ∷ []) n) (space ∷ []) ∙ value-spaces acc n

value-digit : (acc d : ℕ) → d < 10 → value acc (decimal_of d) ≡ acc * 10 + d
unfolding decimal_of decimal_in
value-digit acc d h = let e : d % 10 ≡ d = omega arith in rw (lt-ltb d 10 h, e) (value-glyph acc d h)

value-tenths : (n : ℕ) → n ≤ 9999 → value 0 (tenths_text n) ≡ n
unfolding value tenths_text decimal_of
value-tenths n h =
    value-append 0 (decimal_of (n / 10)) (point ∷ decimal_of (n % 10))
    ∙ value-digit (value 0 (decimal_of (n / 10))) (n % 10) (omega arith)
    ∙ (let e = value_in 20 (n / 10) (omega arith) in omega arith)

value-figure : (n : ℕ) → n ≤ 9999 → value 0 (figure_text (Printed.Tenths n)) ≡ n
value-figure n h =
    ap (value 0) (padded n h)
    ∙ value-append 0 (repeated space (5 - length (tenths_text n))) (tenths_text n)
    ∙ ap (λ (acc : ℕ). value acc (tenths_text n)) (value-spaces 0 (5 - length (tenths_text n)))
    ∙ value-tenths n h

-- a figure's tenths are at most 9,999
signed-most : (s : Bool) (n a : ℕ) → signed_tenths s n ≡ Printed.Tenths a → a ≤ 9999
signed-most false n a p = by (leb n 9999) refl p
  where
    by : (b : Bool) → leb n 9999 ≡ b → cond b (Printed.Tenths n) Printed.Stars ≡ Printed.Tenths a → a ≤ 9999
    by true e p = let l = leb-true n 9999 e in let i : n ≡ a = cc in omega arith
    by false e p = absurd (let z : ◌≡◌ {A = ℕ} 0 1 = cc in omega arith)
signed-most true zero a p = let i : 0 ≡ a = cc in omega arith
signed-most true (suc n) a p = by (leb (suc n) 999) p
  where
    by : (b : Bool) → cond b (Printed.Minus (suc n)) Printed.Stars ≡ Printed.Tenths a → a ≤ 9999
    by true p = absurd (let z : ◌≡◌ {A = ℕ} 0 1 = cc in omega arith)
    by false p = absurd (let z : ◌≡◌ {A = ℕ} 0 1 = cc in omega arith)

most : (v : Float) (a : ℕ) → figure_of v ≡ Printed.Tenths a → a ≤ 9999
unfolding figure_of
most nan a p = absurd (let z : ◌≡◌ {A = ℕ} 0 1 = cc in omega arith)
most (inf s) a p = absurd (let z : ◌≡◌ {A = ℕ} 0 1 = cc in omega arith)
most (fin s m e) a p = signed-most s (nearest (10 * m * up e) (down e)) a p

pub texts : Texts
texts = record { same = λ v w a b p q e. rw (p, q, e); differ = λ v w a b p q e. sym (value-figure a (most v a p)) ∙ ap (value 0) (ap figure_text (sym p) ∙ e ∙ ap figure_text q) ∙ value-figure b (most w b q) }
