-- The order and the distance that the laws of printed figures ask for, and where stars stand.
use Rattle.std.specs.Prelude.{Bool, true, false, not, List, ◌∷◌, ◌≡◌, ℕ, ◌+◌, ◌*◌, ◌≤◌, ◌<◌, T, ℤ, length, Float}
use Rattle.std.specs.Float.{fin}
use Rattle.std.specs.Float.Ieee.{up, down, le}
use Rattle.std.specs.Float.Ieee.Scale.{finite}
use Rattle.figures.specs.declared.Printed.{Printed}
use Rattle.figures.specs.Nearest.{nearest}
use Rattle.figures.specs.Figure.{figure_of}
use Rattle.figures.specs.FigureText.{dash, tenths_text}
use Rattle.figure_laws.specs.Jump.{NotAbove, distance_by_signs}

-- all tenths, with the minus
abbrev pub in_full : Bool → ℕ → List ℕ
in_full false n = tenths_text n
in_full true n = dash ∷ tenths_text n

pub record FiguresAsRead : Type 0 where
  -- `keeps`: where IEEE 754's comparison of two finite numbers says so, the one is not above the other
  pub not-above : (v w : Float) → T (finite v) → T (finite w) → T (le v w) → NotAbove v w
  -- `jump`: on one side of zero the lesser size and the distance are the greater; across zero the sizes add up
  pub apart-up : (s : Bool) (x y : ℕ) → x ≤ y → x + distance_by_signs s x s y ≡ y
  pub apart-down : (s : Bool) (x y : ℕ) → y ≤ x → y + distance_by_signs s x s y ≡ x
  pub apart-across : (s : Bool) (x y : ℕ) → distance_by_signs s x (not s) y ≡ x + y
  -- `five-characters`: a number prints as stars only where its tenths in full take more than five characters
  pub stars : (s : Bool) (m : ℕ) (e : ℤ) → figure_of (fin s m e) ≡ Printed.Stars → 5 < length (in_full s (nearest (10 * m * up e) (down e)))
