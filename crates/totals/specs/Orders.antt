-- What holds of a total beside the contracts: it does not depend on the order of the calls, and it fits a u32.
use mathlib.Core.List.{List, Perm, reverse}
use Rattle.std.specs.Prelude.{◌≡◌, ℕ, ◌≤◌, Ok}
use Rattle.totals.specs.Total.{total_of}

-- lists of the same calls, in whatever order, have the same answer, refusals included
abbrev pub AnyOrder : Type 0
AnyOrder = (ps qs : List ℕ) → Perm ps qs → total_of ps ≡ total_of qs

-- the list from the last call to the first is one of these orders
abbrev pub NewestFirst : Type 0
NewestFirst = (ps : List ℕ) → total_of (reverse ps) ≡ total_of ps

-- 256 calls at the highest price
abbrev pub AtMost : Type 0
AtMost = (ps : List ℕ) (n : ℕ) → total_of ps ≡ Ok n → n ≤ 3686400000
