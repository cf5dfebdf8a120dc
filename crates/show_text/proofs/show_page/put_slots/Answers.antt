-- Slot k is the sheet's.
use native.Mathlib.Omega.{arith}
use Rattle.std.proofs.lemmas.List.{get_or-take}
use Rattle.lines.proofs.Placing.{joined_more, put_then}
use Rattle.circuit_sheet.specs.CircuitSheet.{no_slot_rows}
use Rattle.show_text.specs.Page.{slot_page_at}
use Rattle.show_text.proofs.show_page.put_slots.Goals as goal

pub loop-k-preserved : goal.loop-k-preserved
loop-k-preserved g c =
    let s = c.args.s.now in
    let k = c.loop-k.k in
    let own = get_or-take s.slots s.rows k no_slot_rows (omega (arith, c.loop-k-test.true)) in
    rw (joined_more (slot_page_at s.rows) k) (put_then _ _ _ _ c.loop-k.invariant (rw own at c.put_slot.ensures))
