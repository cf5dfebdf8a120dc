-- The sheet of a circuit file. MUF and slot sheets each start from the slots as `ionset` left them, over the state that `from_layers` makes of the points. The paper's refusals: 1 to 4 for the file, then 7, then the MUF's.
use Rattle.std.specs.Prelude.{Bool, true, false, Result, Ok, Err, List, [], ◌∷◌, map, ℕ, ◌*◌, ltb, pos, take, replicate}
use Rattle.std.specs.Float.{binary32}
use Rattle.std.specs.Float.Ieee.{of_bits}
use Rattle.refusal.specs.declared.Refusal.{Refusal}
use Rattle.records.specs.Record.{form64}
use Rattle.circuit.specs.Read.{read_of}
use Rattle.circuit.specs.declared.Circuit as file
use Rattle.circuit_sheet.specs.Numbers.{params_of, es_of, column_of, shaped_of, path_of}
use Rattle.std.specs.Result.{result_unwrap_or}
use Rattle.layers.specs.State.{zero_state}
use Rattle.layers.specs.FromLayers.{from_layers_of}
use Rattle.layers.specs.Ionset.{ionset_of}
use Rattle.layers.specs.declared.IonoState.{IonoState}
use Rattle.layers.specs.declared.LayerMuf.{LayerMuf}
use Rattle.muf.specs.Curmuf.{curmuf_of}
use Rattle.muf.specs.declared.MufHour.{MufHour}
use Rattle.muf.specs.declared.MufAnswer.{MufAnswer}
use Rattle.reflectrix.specs.Angles.{sang_of}
use Rattle.reflectrix.specs.Rows.{no_rows}
use Rattle.profile.specs.Marks.{unmarked}
use Rattle.slot_sheet.specs.declared.SlotSheet.{SlotSheet}
use Rattle.slot_sheet.specs.Sheet.{slot_sheet_of}
use Rattle.circuit_sheet.specs.declared.SlotRows.{SlotRows}
use Rattle.circuit_sheet.specs.declared.Sheet.{Sheet}

abbrev pub Circuit : Type 0
Circuit = file.Circuit

-- The slots as `ionset` leaves them. `from_layers` leaves `ielect` unset; neither refuses, since a circuit has 1 to 5 points.
unfoldable pub slots_of : Circuit → IonoState
slots_of c =
    let made = result_unwrap_or (from_layers_of (params_of c.points) c.km) zero_state in
    let s = shaped_of made c.shape in
    result_unwrap_or (ionset_of s) s

-- km rows of Es, km numbers of clat and of clck, in point order
unfoldable pub muf_of : Circuit → IonoState → Result MufAnswer Refusal
muf_of c s =
    curmuf_of s
    (take (4 * c.km) (es_of c.points))
    (map (of_bits binary32) c.deciles)
    (take c.km (column_of c.points 13))
    (take c.km (column_of c.points 14))
    (path_of c)

-- a slot that is not there
abbrev pub no_slot : SlotRows
no_slot = record { ion = no_rows; marks = unmarked }

-- past the end of a sheet's rows, where no code reads
abbrev pub no_slot_rows : SlotRows
no_slot_rows = record { ion = record { fvert = []; hprim = []; htrue = []; afac = []; segment = [] }; marks = [] }

-- The rows and marks of a slot below kfx; each sheet has its own cells, thirty for each of 40 angles, so that none is refused.
abbrev pub rows_in : Result SlotSheet Refusal → SlotRows
rows_in (Ok a) = record { ion = a.ion; marks = a.marks }
rows_in (Err r) = no_slot

abbrev pub slot_rows_by : Bool → IonoState → ℕ → ℕ → List LayerMuf → SlotRows
slot_rows_by true s k nang lines = rows_in (slot_sheet_of s k nang lines (replicate 1200 (pos 0)))
slot_rows_by false s k nang lines = no_slot

unfoldable pub slot_rows_of : IonoState → ℕ → ℕ → List LayerMuf → SlotRows
slot_rows_of s k nang lines = slot_rows_by (ltb k s.kfx) s k nang lines

-- every sheet is given the MUF's four lines, and the state that `ionset` left, not the MUF's
unfoldable pub answered_of : IonoState → ℕ → MufHour → Sheet
answered_of s nang h =
    record {
      hour = h;
      slots = s.kfx;
      rows = slot_rows_of s 0 nang h.layers ∷ slot_rows_of s 1 nang h.layers ∷ slot_rows_of s 2 nang h.layers ∷ [];
    }

abbrev pub muf_then : Result MufAnswer Refusal → IonoState → ℕ → Result Sheet Refusal
muf_then (Ok m) s nang = Ok (answered_of s nang m.hour)
muf_then (Err r) s nang = Err r

unfoldable pub scanned_of : Circuit → ℕ → Result Sheet Refusal
scanned_of c nang =
    let s = slots_of c in
    muf_then (muf_of c s) s nang

abbrev pub scan_then : Result ℕ Refusal → Circuit → Result Sheet Refusal
scan_then (Ok nang) c = scanned_of c nang
scan_then (Err r) c = Err r

unfoldable pub circuit_sheet_of : Circuit → Result Sheet Refusal
circuit_sheet_of c = scan_then (sang_of (of_bits binary32 c.gcdkm) (of_bits binary32 c.amind)) c

abbrev pub read_then : Result Circuit Refusal → Result Sheet Refusal
read_then (Ok c) = circuit_sheet_of c
read_then (Err r) = Err r

unfoldable pub sheet_of : List ℕ → Result Sheet Refusal
sheet_of f = read_then (read_of form64 f)
