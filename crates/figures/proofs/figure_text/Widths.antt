-- How many characters the tenths take: five at most up to 999.9, and more from there on. A printed figure has five.
use Prim.Native.Nat.{ℕ, zero, suc, ◌+◌, ◌-◌, ◌*◌, ◌/◌, ◌%◌, ◌≤◌, ◌<◌}
use mathlib.Core.Path.{◌≡◌, refl, subst}
use mathlib.Core.Bool.{Bool, true, false, cond}
use mathlib.Core.List.{[], ◌∷◌, ◌++◌}
use native.Mathlib.Omega.{arith}
use borrow.Author.Tests.{lt-ltb, le-ltb, le-leb, leb-true}
use lib.Dec.{ltb, leb}
use lib.ListN.{length, length-append}
use lib.Ieee.{Float, nan, inf, fin, up, down}
use Rattle.io.specs.Digits.{hex_digit_ascii}
use Rattle.lines.specs.Text.{space, tens_by, decimal_in, decimal_of}
use Rattle.lines.proofs.Decimals.{length-below}
use Rattle.lines.proofs.Sizes.{AtMost}
use Rattle.figures.specs.declared.Printed.{Printed}
use Rattle.figures.specs.Nearest.{nearest}
use Rattle.figures.specs.Figure.{signed_tenths, figure_of}
use Rattle.lines.specs.Aligned.{repeated, right}
use Rattle.lines.proofs.aligned.Widths.{right-width}
use Rattle.figures.specs.FigureText.{dash, point, inf_word, nan_word, tenths_text, figure_text, FiveCharacters}

one_in : (p n : ℕ) → n < 10 → length (decimal_in (suc p) n) ≡ 1
unfolding decimal_in
one_in p n h = rw (lt-ltb n 10 h)

more-in : (p n : ℕ) → 10 ≤ n → length (decimal_in (suc p) n) ≡ length (decimal_in p (n / 10)) + 1
unfolding decimal_in
more-in p n h = rw (le-ltb n 10 h) (length-append (decimal_in p (n / 10)) (hex_digit_ascii (n % 10) ∷ []))

one : (n : ℕ) → n < 10 → length (decimal_of n) ≡ 1
unfolding decimal_of
one n h = one_in 19 n h

some_in : (p n : ℕ) → 1 ≤ length (decimal_in (suc p) n)
unfolding decimal_in
some_in p n = let e = length-append (tens_by (ltb n 10) (decimal_in p (n / 10))) (hex_digit_ascii (n % 10) ∷ []) in omega arith

three : (n : ℕ) → 100 ≤ n → 3 ≤ length (decimal_of n)
unfolding decimal_of
three n l = let a = more-in 19 n (omega arith) in let b = more-in 18 (n / 10) (omega arith) in let c = some_in 17 (n / 10 / 10) in omega arith

tenths-length : (n : ℕ) → length (tenths_text n) ≡ length (decimal_of (n / 10)) + 2
unfolding tenths_text
tenths-length n =
    let a = length-append (decimal_of (n / 10)) (point ∷ decimal_of (n % 10)) in
    let b = one (n % 10) (omega arith) in
    omega arith

-- the tenths up to 999.9 have spaces before them
pub padded : (n : ℕ) → n ≤ 9999 → figure_text (Printed.Tenths n) ≡ repeated space (5 - length (tenths_text n)) ++ tenths_text n
unfolding figure_text right
padded n h = let l = tenths-length n in let m = length-below 2 (n / 10) (omega arith) in rw (le-leb (length (tenths_text n)) 5 (omega arith)) refl

-- ---- five characters

signed-five : (s : Bool) (n : ℕ) → length (figure_text (signed_tenths s n)) ≡ 5
unfolding figure_text
signed-five false n = by (leb n 9999)
  where
    by : (b : Bool) → length (figure_text (cond b (Printed.Tenths n) Printed.Stars)) ≡ 5
    by true = right-width 5 (tenths_text n)
    by false = refl
signed-five true zero = right-width 5 (tenths_text 0)
signed-five true (suc n) = by (leb (suc n) 999)
  where
    by : (b : Bool) → length (figure_text (cond b (Printed.Minus (suc n)) Printed.Stars)) ≡ 5
    by true = right-width 5 (dash ∷ tenths_text (suc n))
    by false = refl

pub figure-five : (x : Float) → length (figure_text (figure_of x)) ≡ 5
unfolding figure_text figure_of
figure-five nan = right-width 5 nan_word
figure-five (inf s) = right-width 5 inf_word
figure-five (fin s m e) = signed-five s (nearest (10 * m * up e) (down e))

-- as the size of a part of a page
pub figure-most : (x : Float) → AtMost (figure_text (figure_of x)) 5
figure-most x = record { most = omega (arith, figure-five x) }

-- ---- what a figure has of tenths is no wider
at_most : (k n : ℕ) → length (decimal_of (n / 10)) ≤ k → length (tenths_text n) ≤ k + 2
at_most k n h = let a = tenths-length n in omega arith

none_at_all : 0 ≤ 5
none_at_all = omega arith

unfoldable Fits : Printed → Type 0
Fits (Printed.Tenths n) = length (tenths_text n) ≤ 5
Fits (Printed.Minus n) = length (dash ∷ tenths_text n) ≤ 5
Fits Printed.Stars = 0 ≤ 5
Fits Printed.Infinite = 0 ≤ 5
Fits Printed.NotANumber = 0 ≤ 5

signed-fits : (s : Bool) (n : ℕ) → Fits (signed_tenths s n)
unfolding Fits
signed-fits false n = go (leb n 9999) refl
  where
    go : (b : Bool) → leb n 9999 ≡ b → Fits (cond b (Printed.Tenths n) Printed.Stars)
    go true e = let l = leb-true n 9999 e in at_most 3 n (length-below 2 (n / 10) (omega arith))
    go false e = none_at_all
signed-fits true zero = at_most 3 0 (length-below 2 (0 / 10) (omega arith))
signed-fits true (suc n) = go (leb (suc n) 999) refl
  where
    go : (b : Bool) → leb (suc n) 999 ≡ b → Fits (cond b (Printed.Minus (suc n)) Printed.Stars)
    go true e = let l = leb-true (suc n) 999 e in let a = at_most 2 (suc n) (length-below 1 (suc n / 10) (omega arith)) in omega arith
    go false e = none_at_all

figure-fits : (x : Float) → Fits (figure_of x)
unfolding figure_of Fits
figure-fits nan = none_at_all
figure-fits (inf s) = none_at_all
figure-fits (fin s m e) = signed-fits s (nearest (10 * m * up e) (down e))

four : (n : ℕ) → 1000 ≤ n → 4 ≤ length (decimal_of n)
unfolding decimal_of
four n l =
    let a = more-in 19 n (omega arith) in
    let b = more-in 18 (n / 10) (omega arith) in
    let c = more-in 17 (n / 10 / 10) (omega arith) in
    let d = some_in 16 (n / 10 / 10 / 10) in
    omega arith

pub five-characters : FiveCharacters
unfolding Fits
five-characters = record {
  five = figure-five;
  fits = λ x n e. subst Fits e (figure-fits x);
  fits-minus = λ x n e. subst Fits e (figure-fits x);
  wide = λ n h. let a = tenths-length n in let b = four (n / 10) (omega arith) in omega arith;
  wide-minus = λ n h. let a = tenths-length n in let b = three (n / 10) (omega arith) in omega arith;
}
