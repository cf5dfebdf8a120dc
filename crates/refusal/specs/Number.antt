-- The number that the paper's table "Where a call is turned away" gives each refusal, with the numbers that requests added.
use Rattle.std.specs.Prelude.{false, ◌≡◌, ℕ, eqb, Result, Ok, Err}
use Rattle.refusal.specs.declared.Refusal.{Refusal}

abbrev pub number_of : Refusal → ℕ
number_of Refusal.Length = 1
number_of Refusal.RecordZero = 2
number_of Refusal.ChainStep = 3
number_of Refusal.ChainRecord = 4
number_of Refusal.PointCount = 5
number_of Refusal.SlotNumber = 6
number_of Refusal.Distance = 7
number_of Refusal.Reflectrix = 8
number_of Refusal.MufInput = 9
number_of Refusal.MufLists = 10
number_of Refusal.MufHops = 11
number_of Refusal.TimeBlock = 12
number_of Refusal.Angle = 13
number_of Refusal.F2m3 = 14
number_of Refusal.Tariff = 15
number_of Refusal.Seconds = 16
number_of Refusal.Prices = 17
number_of Refusal.Traces = 18
number_of Refusal.Owner = 19
number_of Refusal.SheetLength = 20

-- what `no_answer` says: no refusal has the number of an answer
abbrev pub NoAnswer : Type 0
NoAnswer = (r : Refusal) → eqb (number_of r) 0 ≡ false

-- the number of an answer that may be a refusal: 0 for one that is none
abbrev pub answer_number : {T : Type 0} → Result T Refusal → ℕ
answer_number (Ok _) = 0
answer_number (Err r) = number_of r
