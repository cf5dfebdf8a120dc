-- The number of a slot: 0 to 2. The paper's refusal: 6 for one above 2.
use Rattle.std.specs.Prelude.{Bool, true, false, Result, Ok, Err, ℕ, leb}
use Rattle.refusal.specs.declared.Refusal.{Refusal}

abbrev pub slot_number_by : Bool → Result (Unit {0}) Refusal
slot_number_by true = Ok tt
slot_number_by false = Err Refusal.SlotNumber

unfoldable pub slot_number_of : ℕ → Result (Unit {0}) Refusal
slot_number_of k = slot_number_by (leb k 2)
