-- Two MUFs and their printed figures. A number `fin s m e` is m * 2 ^ e with its sign (true is minus), and 2 ^ e is the fraction up e / down e; over the common denominator down e * down f the sizes of two numbers are m * up e * down f and n * up f * down e.
use Rattle.std.specs.Prelude.{Bool, true, false, ◌≡◌, ℕ, ◌+◌, ◌*◌, ◌≤◌, Float}
use Rattle.std.specs.Float.{nan, inf, fin, binary32}
use Rattle.std.specs.Float.Ieee.{up, down, of_bits}
use Rattle.rounding.specs.TiesToEven.{gap}
use Rattle.figures.specs.Figure.{figure_of}
use Rattle.figures.specs.declared.Printed.{Printed}

-- how far apart two numbers of these sizes are: numbers of unlike signs lie on either side of zero
abbrev pub distance_by_signs : Bool → ℕ → Bool → ℕ → ℕ
distance_by_signs false x false y = gap x y
distance_by_signs false x true y = x + y
distance_by_signs true x false y = x + y
distance_by_signs true x true y = gap x y

-- v and w differ by at most d tenths, as exact numbers
abbrev pub Within : ℕ → Float → Float → Type 0
Within d nan w = ⊥
Within d (inf s) w = ⊥
Within d (fin s m e) nan = ⊥
Within d (fin s m e) (inf t) = ⊥
Within d (fin s m e) (fin t n f) = 10 * distance_by_signs s (m * up e * down f) t (n * up f * down e) ≤ d * (down e * down f)

-- v is not above w, as exact numbers; a number with a minus is above one without only as a zero is above a zero
abbrev pub not_above : Bool → ℕ → Bool → ℕ → Type 0
not_above false x false y = x ≤ y
not_above false x true y = (x ≡ 0) × (y ≡ 0)
not_above true x false y = Unit {0}
not_above true x true y = y ≤ x

abbrev pub NotAbove : Float → Float → Type 0
NotAbove nan w = ⊥
NotAbove (inf s) w = ⊥
NotAbove (fin s m e) nan = ⊥
NotAbove (fin s m e) (inf t) = ⊥
NotAbove (fin s m e) (fin t n f) = not_above s (m * up e * down f) t (n * up f * down e)

-- figures from 0.0 to 999.9 of two MUFs that differ by at most d tenths differ by at most d + 1 tenths
abbrev pub Jump : Type 0
Jump = (v w : Float) (d a b : ℕ) → figure_of v ≡ Printed.Tenths a → figure_of w ≡ Printed.Tenths b → Within d v w → gap a b ≤ d + 1

-- the greater MUF never prints the smaller figure
abbrev pub Keeps : Type 0
Keeps = (v w : Float) (a b : ℕ) → figure_of v ≡ Printed.Tenths a → figure_of w ≡ Printed.Tenths b → NotAbove v w → a ≤ b

-- 0.25 and 0.75, five tenths apart, print 0.2 and 0.8
pub record Reached : Type 0 where
  pub lower : figure_of (of_bits binary32 0x3e80_0000) ≡ Printed.Tenths 2
  pub upper : figure_of (of_bits binary32 0x3f40_0000) ≡ Printed.Tenths 8
  pub five : Within 5 (of_bits binary32 0x3e80_0000) (of_bits binary32 0x3f40_0000)
