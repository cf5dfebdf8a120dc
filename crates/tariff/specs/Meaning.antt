-- What the tests of the definition mean, in the request's words.
use Rattle.std.specs.Prelude.{true, List, ◌≡◌, ℕ, ◌+◌, ◌*◌, ◌≤◌, ◌<◌, Ok, Err, Float, length, get_or}
use Rattle.figures.specs.Figure.{figure_of}
use Rattle.figures.specs.declared.Printed.{Printed}
use Rattle.refusal.specs.declared.Refusal.{Refusal}
use Rattle.tariff.specs.Price.{tariff_good, first_band, rounded_up, price_of}

-- a tariff as described
pub record Described (tops rates : List ℕ) : Type 0 where
  pub paired : length tops ≡ length rates
  pub some : 1 ≤ length tops
  pub few : length tops ≤ 16
  pub top : (i : ℕ) → i < length tops → get_or tops i 0 ≤ 9999
  pub rises : (i : ℕ) → i + 1 < length tops → get_or tops i 0 < get_or tops (i + 1) 0
  pub rate : (i : ℕ) → i < length rates → get_or rates i 0 ≤ 10000

pub record TariffRule : Type 0 where
  pub is : (tops rates : List ℕ) → tariff_good tops rates ≡ true → Described tops rates
  pub only : (tops rates : List ℕ) → Described tops rates → tariff_good tops rates ≡ true

-- the band: its top is not below the figure, and that of every band before it is
pub record FirstBand (tenths : ℕ) (tops : List ℕ) (band : ℕ) : Type 0 where
  pub among : band < length tops
  pub reaches : tenths ≤ get_or tops band 0
  pub before : (i : ℕ) → i < band → get_or tops i 0 < tenths

pub record BandRule : Type 0 where
  pub is : (tenths : ℕ) (tops : List ℕ) → first_band tenths tops < length tops → FirstBand tenths tops (first_band tenths tops)
  pub only : (tenths : ℕ) (tops : List ℕ) (band : ℕ) → FirstBand tenths tops band → band ≡ first_band tenths tops

-- the least whole number whose sixtyfold is not below n
pub record LeastCents (n c : ℕ) : Type 0 where
  pub reaches : n ≤ 60 * c
  pub least : (k : ℕ) → n ≤ 60 * k → c ≤ k

pub record CentsRule : Type 0 where
  pub is : (n : ℕ) → LeastCents n (rounded_up n)
  pub only : (n c : ℕ) → LeastCents n c → c ≡ rounded_up n

-- a call that has a price, and which
pub record Priced (muf : Float) (tops rates : List ℕ) (seconds c : ℕ) : Type 0 where
  pub tariff : Described tops rates
  pub tenths : ℕ
  pub printed : figure_of muf ≡ Printed.Tenths tenths
  pub band : ℕ
  pub first : FirstBand tenths tops band
  pub started : 1 ≤ seconds
  pub ended : seconds ≤ 86400
  pub cents : LeastCents (get_or rates band 0 * seconds) c

-- a call that only its seconds keep from having a price
pub record OnlySeconds (muf : Float) (tops rates : List ℕ) (seconds : ℕ) : Type 0 where
  pub tariff : Described tops rates
  pub tenths : ℕ
  pub printed : figure_of muf ≡ Printed.Tenths tenths
  pub band : ℕ
  pub first : FirstBand tenths tops band
  pub outside : 1 ≤ seconds → seconds ≤ 86400 → ⊥

-- the answer is the price where there is one, and cents are never answered otherwise; 16 is answered only where nothing calls for 15
pub record PriceRule : Type 0 where
  pub is : (muf : Float) (tops rates : List ℕ) (seconds c : ℕ) → price_of muf tops rates seconds ≡ Ok c → Priced muf tops rates seconds c
  pub only : (muf : Float) (tops rates : List ℕ) (seconds c : ℕ) → Priced muf tops rates seconds c → price_of muf tops rates seconds ≡ Ok c
  pub most : (muf : Float) (tops rates : List ℕ) (seconds c : ℕ) → price_of muf tops rates seconds ≡ Ok c → c ≤ 14400000
  pub sixteen : (muf : Float) (tops rates : List ℕ) (seconds : ℕ) → price_of muf tops rates seconds ≡ Err Refusal.Seconds → OnlySeconds muf tops rates seconds
