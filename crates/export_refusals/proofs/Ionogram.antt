-- Ionogram and slot sheet: the words lent, then the refusals of the functions.
use mathlib.Core.Bool.{Bool, true, false, ◌||◌}
use mathlib.Core.List.{List}
use mathlib.Core.Path.{refl}
use Prim.Native.Nat.{ℕ}
use lib.Dec.{eqb, leb}
use lib.IntN.{ℤ}
use lib.Ieee.{binary32, of_bits}
use Rattle.std.specs.Prelude.{Result, IfErr}
use Rattle.refusal.specs.Number.{answer_number}
use Rattle.refusal.specs.declared.Refusal.{Refusal}
use Rattle.records.specs.Chain.{member}
use Rattle.layers.specs.Owners.{owned_by}
use Rattle.layers.specs.declared.IonoState.{IonoState}
use Rattle.layers.specs.declared.LayerMuf.{LayerMuf}
use Rattle.heights.specs.Gethp.{gethp_of}
use Rattle.reflectrix.specs.Angles.{distance_step_of, scan_by, sang_of}
use Rattle.reflectrix.specs.Fobby.{room_for, outcome_by, fobby_outcome}
use Rattle.reflectrix.specs.declared.Ionogram.{Ionogram}
use Rattle.sounding.specs.Genion.{genion_answer}
use Rattle.losses.specs.Alosfv.{answered_by, alosfv_answer}
use Rattle.slot_sheet.specs.Sheet as slot
use Rattle.port_state.specs.Ports.{Ported}
use Rattle.port_state.specs.State.{state_words, state_of}
use Rattle.answer_words.specs.Words.{short}
use Rattle.port_ionogram.specs.Sang.{unless_short, sang_words}
use Rattle.port_state.specs.Lines.{lines_of_words}
use Rattle.port_ionogram.specs.Layouts.{ionogram_of}
use Rattle.port_ionogram.specs.Exports.{port_selmod, rows_into, port_genion, port_alosfv, PortedCells, cells_unless_short, port_fobby, sheet_into, sheet_on, sheet_cells_on, sheet_unless_short, port_sheet}
use Rattle.sheet_refusals.specs.Refusals.{Among}
use Rattle.export_refusals.specs.Exports.{OneOf, sang_numbers, selmod_numbers, genion_numbers, alosfv_numbers, fobby_numbers, port_sheet_numbers}
use Rattle.export_refusals.proofs.Cases.{both, either, by-answer}

unless-short : (numbers : List ℕ) (b : Bool) (w : List ℕ) (a : Ported) → OneOf numbers 1 → OneOf numbers a.number → OneOf numbers (unless_short b w a).number
unless-short numbers true w a one p = one
unless-short numbers false w a one p = p

pub sang-numbers : (gcdkm amind : ℕ) (out : List ℕ) → OneOf sang_numbers (sang_words gcdkm amind out).number
unfolding sang_words sang_of member
sang-numbers gcdkm amind out =
    let id = distance_step_of (of_bits binary32 gcdkm) in
    unless-short sang_numbers (short out 1) out _ refl (both (λ b. OneOf sang_numbers (answer_number (scan_by b (of_bits binary32 amind) id))) refl refl (eqb id 0))

pub selmod-numbers : (state out : List ℕ) → OneOf selmod_numbers (port_selmod state out).number
unfolding port_selmod member
selmod-numbers state out = unless-short selmod_numbers (short state state_words || short out 1) out _ refl refl

-- ---- the rows

rows_in : (numbers : List ℕ) (a : Result Ionogram Refusal) (w : List ℕ) → OneOf numbers 0 → IfErr a (Among numbers) → OneOf numbers (rows_into a w).number
rows_in numbers a w zero p = by-answer numbers (λ x. (rows_into x w).number) (λ ion. zero) (λ r. refl) a p

genion-in : (s : IonoState) (k : ℕ) → IfErr (genion_answer s k) (Among genion_numbers)
unfolding genion_answer member
genion-in s k =
    let P : Result Ionogram Refusal → Type 0 = λ a. IfErr a (Among genion_numbers) in
    either P (leb k 2) _ _ (either P (owned_by s k) _ _ tt refl) refl

pub genion-numbers : (state : List ℕ) (k : ℕ) (out : List ℕ) → OneOf genion_numbers (port_genion state k out).number
unfolding port_genion member
genion-numbers state k out =
    unless-short genion_numbers (short state state_words || short out 150) out _ refl
    (rows_in genion_numbers (genion_answer (state_of state) k) out refl (genion-in (state_of state) k))

alosfv-in : (s : IonoState) (k : ℕ) (ion : Ionogram) (layers : List LayerMuf) → IfErr (alosfv_answer s k ion layers) (Among alosfv_numbers)
unfolding alosfv_answer member
alosfv-in s k ion layers = both (λ b. IfErr (answered_by b s k ion layers) (Among alosfv_numbers)) tt refl (leb k 2)

pub alosfv-numbers : (state : List ℕ) (k : ℕ) (ion layers : List ℕ) → OneOf alosfv_numbers (port_alosfv state k ion layers).number
unfolding port_alosfv member
alosfv-numbers state k ion layers =
    unless-short alosfv_numbers (short state state_words || short ion 150 || short layers 44) ion _ refl
    (rows_in alosfv_numbers (alosfv_answer (state_of state) k (ionogram_of ion) (lines_of_words layers)) ion refl (alosfv-in (state_of state) k (ionogram_of ion) (lines_of_words layers)))

-- ---- the reflectrix

cells-unless-short : (b : Bool) (cells : List ℤ) (a : PortedCells) → OneOf fobby_numbers a.number → OneOf fobby_numbers (cells_unless_short b cells a).number
unfolding member
cells-unless-short true cells a p = refl
cells-unless-short false cells a p = p

pub fobby-numbers : (ion : List ℕ) (nang : ℕ) (cells : List ℤ) → OneOf fobby_numbers (port_fobby ion nang cells).number
unfolding port_fobby fobby_outcome member
fobby-numbers ion nang cells =
    cells-unless-short (short ion 150) cells _ (both (λ b. OneOf fobby_numbers (answer_number (outcome_by b))) refl refl (room_for nang cells))

-- ---- the slot sheet

slot-in : (a b : Bool) (s : IonoState) (k : ℕ) (layers : List LayerMuf) → IfErr (slot.sheet_by a b gethp_of s k layers) (Among port_sheet_numbers)
unfolding member
slot-in true true s k layers = tt
slot-in true false s k layers = refl
slot-in false b s k layers = refl

pub sheet-numbers : (state : List ℕ) (k nang : ℕ) (layers : List ℕ) (cells : List ℤ) (out : List ℕ) → OneOf port_sheet_numbers (port_sheet state k nang layers cells out).number
unfolding port_sheet slot.slot_sheet_with member
sheet-numbers state k nang layers cells out =
    let a = sheet_on state k nang layers cells in
    let c = sheet_cells_on state k nang cells in
    both (λ b. OneOf port_sheet_numbers (sheet_unless_short b state cells out (sheet_into a c state cells out)).number) refl
    (by-answer port_sheet_numbers (λ x. (sheet_into x c state cells out).number) (λ t. refl) (λ r. refl) a (slot-in (leb k 2) (room_for nang cells) (state_of state) k (lines_of_words layers)))
    (short state state_words || short layers 44 || short out 200)
