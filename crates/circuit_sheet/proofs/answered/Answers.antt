-- The three slots in turn, each from the same state.
use mathlib.Core.Path.{ap}
use mathlib.Core.List.{List}
use Rattle.std.proofs.Common.{rules}
use Rattle.scalar.proofs.FromFn.{from_fn_numbers}
use Rattle.circuit_sheet.specs.CircuitSheet.{slot_rows_of, answered_of}
use Rattle.circuit_sheet.specs.declared.Sheet.{Sheet}
use Rattle.circuit_sheet.specs.declared.SlotRows.{SlotRows}
use Rattle.circuit_sheet.proofs.answered.Goals as goal

pub returns : goal.returns
unfolding answered_of
returns c =
    let a = c.args in
    let with_rows : List SlotRows → Sheet = λ rows. record { hour = a.hour; slots = a.s.kfx; rows = rows } in
    ap with_rows (from_fn_numbers (λ k. slot_rows_of a.s k a.nang a.hour.layers) 3 (λ k y q l r. search rules) c.from_fn-rows.ensures.items)
