-- The total of a day's calls: the sum of the list. Refused are over 256 prices, and a price above 14,400,000 cents anywhere in the list.
use Rattle.std.specs.Prelude.{Bool, true, cond, ◌&&◌, List, [], ◌∷◌, ℕ, ◌+◌, leb, Result, Ok, Err, length}
use Rattle.refusal.specs.declared.Refusal.{Refusal}

unfoldable pub sum_of : List ℕ → ℕ
sum_of [] = 0
sum_of (p ∷ ps) = p + sum_of ps

-- is every price at most 14,400,000
unfoldable pub prices_good : List ℕ → Bool
prices_good [] = true
prices_good (p ∷ ps) = leb p 14400000 && prices_good ps

unfoldable pub total_of : List ℕ → Result ℕ Refusal
total_of ps = cond (leb (length ps) 256 && prices_good ps) (Ok (sum_of ps)) (Err Refusal.Prices)
