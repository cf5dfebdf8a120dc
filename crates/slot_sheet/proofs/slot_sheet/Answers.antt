-- The slot and the room are tested first; the reflectrix tests the room again, and is refused as the sheet is.
use mathlib.Core.Bool.{Bool, true, false}
use mathlib.Core.List.{List}
use mathlib.Core.Path.{◌≡◌, refl}
use Prim.Native.Nat.{ℕ}
use lib.IntN.{ℤ}
use borrow.Author.Tests.{le-leb, lt-leb}
use Rattle.std.proofs.Common.{Ok, Err}
use Rattle.std.proofs.lemmas.Result.{err_from_is_err_and}
use Rattle.refusal.specs.declared.Refusal.{Refusal}
use Rattle.layers.proofs.SlotNumbers.{slot-taken, slot-refused}
use Rattle.reflectrix.specs.Fobby.{room_for, cells_after, outcome_by, fobby_outcome}
use Rattle.slot_sheet.specs.Sheet.{slot_sheet_with, sheet_cells_with}
use Rattle.slot_sheet.proofs.slot_sheet.Goals.{then-nang-gt40-via-then-nang-gt40, then-nang-gt40-via-else-nang-gt40+then-cells-nang}
use Rattle.slot_sheet.proofs.slot_sheet.Goals as goal

refused_by : (b : Bool) (r : Refusal) → Err r ≡ outcome_by b → (b ≡ false) × (r ≡ Refusal.Reflectrix)
refused_by true r e = (cc, cc)
refused_by false r e = (refl, cc)

no-room : (nang : ℕ) (cells : List ℤ) (r : Refusal) → Err r ≡ fobby_outcome nang cells → (room_for nang cells ≡ false) × (r ≡ Refusal.Reflectrix)
unfolding fobby_outcome
no-room nang cells r e = refused_by (room_for nang cells) r e

answered_by : (b : Bool) → Ok tt ≡ outcome_by b → b ≡ true
answered_by true e = refl
answered_by false e = cc

room : (nang : ℕ) (cells : List ℤ) → Ok tt ≡ fobby_outcome nang cells → room_for nang cells ≡ true
unfolding fobby_outcome
room nang cells e = answered_by (room_for nang cells) e

pub returns-in_err-slot_number-clause-value : goal.returns-in_err-slot_number-clause-value
unfolding slot_sheet_with
returns-in_err-slot_number-clause-value c =
    let p = err_from_is_err_and c.from_residual.result c.from_residual.ensures.1 in
    let n = slot-refused c.args.k _ c.in_err-slot_number.ensures.value in
    rw (p.1, p.2, n.0, n.1)

pub returns-in_err-slot_number-clause-cells_after : goal.returns-in_err-slot_number-clause-cells_after
unfolding sheet_cells_with
returns-in_err-slot_number-clause-cells_after c =
    let n = slot-refused c.args.k _ c.in_err-slot_number.ensures.value in
    rw n.0

pub returns-then-nang-gt40 : goal.returns-then-nang-gt40
unfolding slot_sheet_with sheet_cells_with room_for
returns-then-nang-gt40 c =
    let slot = slot-taken _ c.in_ok-slot_number.ensures.value in
    elim c.then-nang-gt40.branch [
      | then-nang-gt40-via-then-nang-gt40 w ↦
          let many = lt-leb _ _ w.if-nang-gt40.true in record { value = rw (slot, many); cells_after = rw (slot, many) }
      | then-nang-gt40-via-else-nang-gt40+then-cells-nang w ↦
          let few = le-leb _ _ w.if-nang-gt40.false in
          let short = lt-leb _ _ w.if-cells-nang.true in
          record { value = rw (slot, few, short); cells_after = rw (slot, few, short) }
    ]

pub returns-in_err-fobby-clause-value : goal.returns-in_err-fobby-clause-value
unfolding slot_sheet_with
returns-in_err-fobby-clause-value c =
    let p = err_from_is_err_and c.from_residual-in_err-fobby.result c.from_residual-in_err-fobby.ensures.1 in
    let n = no-room c.args.nang c.args.cells.now c.in_err-fobby.field-0.0 c.in_err-fobby.ensures.value in
    rw (p.1, p.2, n.1, slot-taken _ c.in_ok-slot_number.ensures.value, n.0)

pub returns-in_err-fobby-clause-cells_after : goal.returns-in_err-fobby-clause-cells_after
unfolding sheet_cells_with cells_after
returns-in_err-fobby-clause-cells_after c =
    let n = no-room c.args.nang c.args.cells.now c.in_err-fobby.field-0.0 c.in_err-fobby.ensures.value in
    rw (slot-taken _ c.in_ok-slot_number.ensures.value, n.0) (rw n.0 at c.in_err-fobby.ensures.cells_after)

pub returns-clause-value : goal.returns-clause-value
unfolding slot_sheet_with
returns-clause-value c =
    let r = room c.args.nang c.args.cells.now c.in_ok-fobby.ensures.value in
    rw (slot-taken _ c.in_ok-slot_number.ensures.value, r, ← c.lecden_slot-t.ensures, ← c.genion_slot-ion.ensures, ← c.alosfv_slot.ensures, ← c.marks_slot-marks.ensures)

pub returns-clause-cells_after : goal.returns-clause-cells_after
unfolding sheet_cells_with cells_after
returns-clause-cells_after c =
    let r = room c.args.nang c.args.cells.now c.in_ok-fobby.ensures.value in
    rw (slot-taken _ c.in_ok-slot_number.ensures.value, r, ← c.lecden_slot-t.ensures, ← c.genion_slot-ion.ensures) (rw r at c.in_ok-fobby.ensures.cells_after)
