-- What is printed of a figure from 0.0 to 999.9 is the text of its tenths, and different tenths have different texts.
use Rattle.std.specs.Prelude.{◌≡◌, ℕ, Float}
use Rattle.figures.specs.Figure.{figure_of}
use Rattle.figures.specs.declared.Printed.{Printed}
use Rattle.figures.specs.FigureText.{figure_text}

-- figures of two MUFs are the same five characters just where their tenths are the same
pub record Texts : Type 0 where
  pub same : (v w : Float) (a b : ℕ) → figure_of v ≡ Printed.Tenths a → figure_of w ≡ Printed.Tenths b → a ≡ b → figure_text (figure_of v) ≡ figure_text (figure_of w)
  pub differ : (v w : Float) (a b : ℕ) → figure_of v ≡ Printed.Tenths a → figure_of w ≡ Printed.Tenths b → figure_text (figure_of v) ≡ figure_text (figure_of w) → a ≡ b
