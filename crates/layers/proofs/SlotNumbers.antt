-- What the answer on a slot's number says of the number.
use mathlib.Core.Bool.{Bool, true, false}
use mathlib.Core.Path.{◌≡◌, refl}
use Prim.Native.Nat.{ℕ}
use lib.Dec.{leb}
use Rattle.std.proofs.Common.{Ok, Err}
use Rattle.refusal.specs.declared.Refusal.{Refusal}
use Rattle.layers.specs.Slots.{slot_number_by, slot_number_of}

taken_by : (b : Bool) → Ok tt ≡ slot_number_by b → b ≡ true
taken_by true e = refl
taken_by false e = cc

pub slot-taken : (k : ℕ) → Ok tt ≡ slot_number_of k → leb k 2 ≡ true
unfolding slot_number_of
slot-taken k e = taken_by (leb k 2) e

refused_by : (b : Bool) (r : Refusal) → Err r ≡ slot_number_by b → (b ≡ false) × (r ≡ Refusal.SlotNumber)
refused_by true r e = (cc, cc)
refused_by false r e = (refl, cc)

pub slot-refused : (k : ℕ) (r : Refusal) → Err r ≡ slot_number_of k → (leb k 2 ≡ false) × (r ≡ Refusal.SlotNumber)
unfolding slot_number_of
slot-refused k r e = refused_by (leb k 2) r e
