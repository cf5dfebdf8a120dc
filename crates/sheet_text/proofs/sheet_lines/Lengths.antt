-- A sheet, of at most three slots, has at most 7,773 bytes: a row has at most 60, two digits, four numbers of nine bytes, a number of at most 20 digits after its space, whatever the segment is, and the line feed; a slot's marks have at most 750.
use mathlib.Core.List.{[], ◌∷◌}
use Prim.Native.Nat.{ℕ, ◌+◌, ◌≤◌, ◌<◌}
use native.Mathlib.Omega.{arith}
use lib.ListN.{get_or}
use lib.Ieee.{Float, binary32, to_bits}
use Rattle.lines.specs.Text.{space}
use Rattle.lines.proofs.Sizes.{AtMost, ◌then◌, word, line-feed, digits-below, field, hex, times}
use Rattle.figures.proofs.figure_text.Widths.{figure-most}
use Rattle.scalar.specs.F32.{at}
use Rattle.muf.specs.declared.MufHour.{MufHour}
use Rattle.reflectrix.specs.declared.Ionogram.{Ionogram}
use Rattle.circuit_sheet.specs.declared.Sheet.{Sheet}
use Rattle.circuit_sheet.specs.declared.SlotRows.{SlotRows}
use Rattle.circuit_sheet.specs.CircuitSheet.{no_slot_rows}
use Rattle.mark_text.proofs.Lengths.{marks-most}
use Rattle.sheet_text.specs.SheetRows.{bits_field, row_fields, row_line}
use Rattle.sheet_text.specs.SheetLines.{muf_word, call_word, slot_word, muf_fields, natural, muf_line, call_line, slot_line, slot_text, slot_text_at, answered_text}

bits : (x : Float) → AtMost (bits_field x) 9
unfolding bits_field
bits x = word (space ∷ []) then hex (to_bits binary32 x)

mufs : (h : MufHour) → AtMost (muf_fields h) 45
unfolding muf_fields
mufs h = bits h.emuf then bits h.f1muf then bits h.f2muf then bits h.esmuf then bits h.allmuf

muf-line : (h : MufHour) → AtMost (muf_line h) 91
unfolding muf_line
muf-line h = word muf_word then mufs h then field (natural h.modmuf) then field h.ks then line-feed

call_line_lem : (h : MufHour) → AtMost (call_line h) 11
unfolding call_line
call_line_lem h = word call_word then figure-most h.allmuf then line-feed

row-fields : (ion : Ionogram) (i : ℕ) → AtMost (row_fields ion i) 36
unfolding row_fields
row-fields ion i = bits (at ion.fvert i) then bits (at ion.htrue i) then bits (at ion.hprim i) then bits (at ion.afac i)

row : (ion : Ionogram) (i : ℕ) → i < 30 → AtMost (row_line ion i) 60
unfolding row_line
row ion i h = digits-below 1 (i + 1) (omega arith) then row-fields ion i then field (get_or ion.segment i 0) then line-feed

slot : (rows : SlotRows) (k : ℕ) → k < 3 → AtMost (slot_text rows k) 2557
unfolding slot_text slot_line
slot rows k h =
    (word slot_word then digits-below 0 k (omega arith) then line-feed) then times (row_line rows.ion) 60 30 (row rows.ion) then marks-most rows.marks

pub answered-most : (s : Sheet) → s.slots ≤ 3 → AtMost (answered_text s) 7773
unfolding answered_text
answered-most s h =
    let slots = times (slot_text_at s.rows) 2557 s.slots (λ k l. slot (get_or s.rows k no_slot_rows) k (omega arith)) in
    let t = muf-line s.hour then call_line_lem s.hour then slots in
    record { most = omega (arith, t.most) }
