-- A page of at most three slots has at most 9,000 bytes: a slot's rows have 1,650, its runs at most 1,100.
use Prim.Native.Nat.{ℕ, ◌≤◌, ◌<◌}
use native.Mathlib.Omega.{arith}
use lib.ListN.{get_or}
use Rattle.refusal.specs.declared.Refusal.{Refusal}
use Rattle.lines.proofs.Sizes.{AtMost, ◌then◌, word, line-feed, digits-below, refused, times}
use Rattle.lines.specs.Ascii.{ascii}
use Rattle.show_text.proofs.muf_table.Lengths.{mufs-most}
use Rattle.show_text.proofs.row_table.Lengths.{rows-most}
use Rattle.show_text.proofs.run_text.Lengths.{runs-most}
use Rattle.show_text.proofs.reason_text.Lengths.{reason-most}
use Rattle.circuit_sheet.specs.declared.Sheet.{Sheet}
use Rattle.circuit_sheet.specs.declared.SlotRows.{SlotRows}
use Rattle.circuit_sheet.specs.CircuitSheet.{no_slot_rows}
use Rattle.show_text.specs.Page.{slot_page, slot_page_at, legend, page_text, refusal_text}

slot : (rows : SlotRows) (k : ℕ) → k < 3 → AtMost (slot_page rows k) 2840
unfolding slot_page
slot rows k h =
    let t = word (ascii "\nSlot ") then digits-below 0 k (omega arith) then word (ascii "\nrow      MHz   true km  virtual km       loss  segment\n") then rows-most rows.ion then word (ascii "\nheights   shape\n") then runs-most rows.marks in
    record { most = omega (arith, t.most) }

pub page-most : (s : Sheet) → s.slots ≤ 3 → AtMost (page_text s) 9000
unfolding page_text
page-most s h =
    let slots = times (slot_page_at s.rows) 2840 s.slots (λ k l. slot (get_or s.rows k no_slot_rows) k (omega arith)) in
    let t = mufs-most s.hour then slots then word legend in
    record { most = omega (arith, t.most) }

pub refusal-most : (r : Refusal) → AtMost (refusal_text r) 150
unfolding refusal_text
refusal-most r = refused r then reason-most r then line-feed
