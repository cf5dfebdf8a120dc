-- The slot is tested as the definition does, and its cells are 1,200 zeros.
use mathlib.Core.Path.{◌≡◌, refl}
use borrow.Author.Tests.{lt-ltb, le-ltb}
use Rattle.std.proofs.Common.{Result, Ok, Err}
use Rattle.refusal.specs.declared.Refusal.{Refusal}
use Rattle.slot_sheet.specs.declared.SlotSheet.{SlotSheet}
use Rattle.circuit_sheet.specs.CircuitSheet.{no_slot, rows_in, slot_rows_of}
use Rattle.circuit_sheet.proofs.slot_rows.Goals as goal

no-sheet : (a : Result SlotSheet Refusal) → ((s : SlotSheet) → a ≡ Ok s → ⊥) → rows_in a ≡ no_slot
no-sheet (Ok s) h = absurd (h s refl)
no-sheet (Err r) h = refl

pub returns-then-k-s : goal.returns-then-k-s
unfolding slot_rows_of
returns-then-k-s c = rw (le-ltb _ _ c.if-k-s.true) c.no_slot.ensures

pub returns-in-Ok : goal.returns-in-Ok
unfolding slot_rows_of
returns-in-Ok c = rw (lt-ltb _ _ c.if-k-s.false, ← c.in-Ok.ensures.value)

pub returns : goal.returns
unfolding slot_rows_of
returns c = rw (lt-ltb _ _ c.if-k-s.false, ← c.slot_sheet.ensures.value, no-sheet c.slot_sheet.result c.in_default.not-Ok) c.no_slot-2.ensures
