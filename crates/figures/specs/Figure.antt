-- The printed figure of a MUF: the five places of `f(v, 5, 1)` of output.rs, as a number of tenths or as what stands in its place.
use Rattle.std.specs.Prelude.{ℕ, zero, suc, ◌*◌, Bool, true, false, cond, leb, Float}
use Rattle.std.specs.Float.{nan, inf, fin}
use Rattle.std.specs.Float.Ieee.{up, down}
use Rattle.figures.specs.declared.Printed.{Printed}
use Rattle.figures.specs.Nearest.{nearest}

-- Tenths with their sign (true is minus), where they take at most five places: up to 999.9, and with a minus up to -99.9. A zero has no minus.
abbrev pub signed_tenths : Bool → ℕ → Printed
signed_tenths false n = cond (leb n 9999) (Printed.Tenths n) Printed.Stars
signed_tenths true zero = Printed.Tenths 0
signed_tenths true (suc n) = cond (leb (suc n) 999) (Printed.Minus (suc n)) Printed.Stars

-- By the exact value, to the nearest tenth and an exact half to the even digit.
unfoldable pub figure_of : Float → Printed
figure_of nan = Printed.NotANumber
figure_of (inf s) = Printed.Infinite
figure_of (fin s m e) = signed_tenths s (nearest (10 * m * up e) (down e))

-- Each case's number, and its tenths.
abbrev pub figure_number : Printed → ℕ
figure_number (Printed.Tenths n) = 0
figure_number (Printed.Minus n) = 1
figure_number Printed.Stars = 2
figure_number Printed.Infinite = 3
figure_number Printed.NotANumber = 4

abbrev pub figure_tenths : Printed → ℕ
figure_tenths (Printed.Tenths n) = n
figure_tenths (Printed.Minus n) = n
figure_tenths Printed.Stars = 0
figure_tenths Printed.Infinite = 0
figure_tenths Printed.NotANumber = 0
