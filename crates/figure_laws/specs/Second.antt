-- One second more on a call: the same tariff and MUF, the price of `seconds` and of `seconds + 1`.
use Rattle.std.specs.Prelude.{List, ◌≡◌, ℕ, ◌+◌, ◌≤◌, Ok, Float, get_or}
use Rattle.figures.specs.Figure.{figure_of}
use Rattle.figures.specs.declared.Printed.{Printed}
use Rattle.tariff.specs.Price.{price_of, rounded_up}
use Rattle.tariff.specs.Meaning.{FirstBand}

-- the call has a price too, which is not lower, and is higher by at most the band's rate divided by 60, rounded up
pub record OneMore (muf : Float) (tops rates : List ℕ) (seconds c : ℕ) : Type 0 where
  pub tenths : ℕ
  pub printed : figure_of muf ≡ Printed.Tenths tenths
  pub band : ℕ
  pub first : FirstBand tenths tops band
  pub more : ℕ
  pub answered : price_of muf tops rates (seconds + 1) ≡ Ok more
  pub never-lower : c ≤ more
  pub adds-at-most : more ≤ c + rounded_up (get_or rates band 0)

abbrev pub OneSecondMore : Type 0
OneSecondMore = (muf : Float) (tops rates : List ℕ) (seconds c : ℕ) → price_of muf tops rates seconds ≡ Ok c → seconds + 1 ≤ 86400 → OneMore muf tops rates seconds c
