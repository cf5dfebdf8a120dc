-- The price of a call by a tariff: tops in tenths of a MHz, rates in cents a minute, one of each for every band.
use Rattle.std.specs.Prelude.{Bool, true, cond, ◌&&◌, List, [], ◌∷◌, ℕ, suc, ◌+◌, ◌*◌, ◌/◌, ◌%◌, eqb, leb, ltb, Option, Some, None, Result, Ok, Err, Float, length, get_or}
use Rattle.figures.specs.Figure.{figure_of}
use Rattle.figures.specs.declared.Printed.{Printed}
use Rattle.refusal.specs.declared.Refusal.{Refusal}

-- is no number of the list above `most`
unfoldable pub within : ℕ → List ℕ → Bool
within most [] = true
within most (x ∷ xs) = leb x most && within most xs

-- is each number above the one before it
unfoldable pub rising : List ℕ → Bool
rising [] = true
rising (x ∷ []) = true
rising (x ∷ y ∷ ys) = ltb x y && rising (y ∷ ys)

-- 1 to 16 bands; tops of 0 to 9,999, strictly rising; rates of 0 to 10,000
unfoldable pub tariff_good : List ℕ → List ℕ → Bool
tariff_good tops rates =
    eqb (length tops) (length rates)
    && (leb 1 (length tops) && (leb (length tops) 16 && (within 9999 tops && (rising tops && within 10000 rates))))

-- the number of the first band whose top is not below the figure; the number of bands where there is none
unfoldable pub first_band : ℕ → List ℕ → ℕ
first_band tenths [] = 0
first_band tenths (top ∷ tops) = cond (leb tenths top) 0 (suc (first_band tenths tops))

-- the band, if a top reaches the figure
abbrev pub band_of : ℕ → List ℕ → Option ℕ
band_of tenths tops = cond (ltb (first_band tenths tops) (length tops)) (Some (first_band tenths tops)) None

-- n / 60, rounded up to a whole number
unfoldable pub rounded_up : ℕ → ℕ
rounded_up n = cond (eqb (n % 60) 0) (n / 60) (n / 60 + 1)

-- a figure in tenths: 15 where no band reaches it, then 16 for the seconds
unfoldable pub figure_price : ℕ → List ℕ → List ℕ → ℕ → Result ℕ Refusal
figure_price tenths tops rates seconds =
    let band = first_band tenths tops in
    cond (ltb band (length tops))
    (cond (leb 1 seconds && leb seconds 86400) (Ok (rounded_up (get_or rates band 0 * seconds))) (Err Refusal.Seconds))
    (Err Refusal.Tariff)

-- a figure that is not a number from 0.0 to 999.9 has no price
abbrev pub printed_price : Printed → List ℕ → List ℕ → ℕ → Result ℕ Refusal
printed_price (Printed.Tenths n) tops rates seconds = figure_price n tops rates seconds
printed_price (Printed.Minus n) tops rates seconds = Err Refusal.Tariff
printed_price Printed.Stars tops rates seconds = Err Refusal.Tariff
printed_price Printed.Infinite tops rates seconds = Err Refusal.Tariff
printed_price Printed.NotANumber tops rates seconds = Err Refusal.Tariff

unfoldable pub price_of : Float → List ℕ → List ℕ → ℕ → Result ℕ Refusal
price_of muf tops rates seconds =
    cond (tariff_good tops rates) (printed_price (figure_of muf) tops rates seconds) (Err Refusal.Tariff)
