-- The printed figure on a word and lent bytes: the number answered, 0 or the refusal's, and the bytes afterwards. A refused call leaves everything.
use Rattle.std.specs.Prelude.{cond, List, ℕ, ltb, length}
use Rattle.std.proofs.lemmas.List.Edits.{sets}
use Rattle.std.specs.Float.{binary32}
use Rattle.std.specs.Float.Ieee.{of_bits}
use Rattle.refusal.specs.Number.{number_of}
use Rattle.refusal.specs.declared.Refusal.{Refusal}
use Rattle.figures.specs.Figure.{figure_of}
use Rattle.figures.specs.FigureText.{figure_text}

unfoldable pub figure_answer : List ℕ → ℕ
figure_answer out = cond (ltb (length out) 5) (number_of Refusal.Length) 0

unfoldable pub figure_left : ℕ → List ℕ → List ℕ
figure_left muf out = cond (ltb (length out) 5) out (sets out 0 (figure_text (figure_of (of_bits binary32 muf))))
