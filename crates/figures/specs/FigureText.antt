-- The five characters of a printed figure, as bytes: `f(v, 5, 1)` of output.rs.
use Rattle.std.specs.Prelude.{ℕ, ◌/◌, ◌%◌, ◌<◌, ◌≤◌, ◌≡◌, List, [], ◌∷◌, ◌++◌, length, Float}
use Rattle.lines.specs.Text.{decimal_of}
use Rattle.lines.specs.Aligned.{star, right}
use Rattle.figures.specs.declared.Printed.{Printed}
use Rattle.figures.specs.Figure.{figure_of}

-- `-` and `.` in ASCII
abbrev pub dash : ℕ
dash = 45

abbrev pub point : ℕ
point = 46

-- `inf` and `NaN` in ASCII
abbrev pub inf_word : List ℕ
inf_word = 105 ∷ 110 ∷ 102 ∷ []

abbrev pub nan_word : List ℕ
nan_word = 78 ∷ 97 ∷ 78 ∷ []

-- a number of tenths with its decimal point
unfoldable pub tenths_text : ℕ → List ℕ
tenths_text n = decimal_of (n / 10) ++ (point ∷ decimal_of (n % 10))

-- at the right of five characters; the tenths of a figure are never wider (`five-characters`)
unfoldable pub figure_text : Printed → List ℕ
figure_text (Printed.Tenths n) = right 5 (tenths_text n)
figure_text (Printed.Minus n) = right 5 (dash ∷ tenths_text n)
figure_text Printed.Stars = star ∷ star ∷ star ∷ star ∷ star ∷ []
figure_text Printed.Infinite = right 5 inf_word
figure_text Printed.NotANumber = right 5 nan_word

-- There are always five characters; the tenths of a figure, with their minus where they have one, take no more, and stars stand only for tenths that would.
pub record FiveCharacters : Type 0 where
  pub five : (x : Float) → length (figure_text (figure_of x)) ≡ 5
  pub fits : (x : Float) (n : ℕ) → figure_of x ≡ Printed.Tenths n → length (tenths_text n) ≤ 5
  pub fits-minus : (x : Float) (n : ℕ) → figure_of x ≡ Printed.Minus n → length (dash ∷ tenths_text n) ≤ 5
  pub wide : (n : ℕ) → 9999 < n → 5 < length (tenths_text n)
  pub wide-minus : (n : ℕ) → 999 < n → 5 < length (dash ∷ tenths_text n)
