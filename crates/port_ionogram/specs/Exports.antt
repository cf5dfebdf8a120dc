-- What each export answers, and the words that it leaves. A slice that is shorter than its layout is refused with 1, before all else; then come the refusals of the function itself, and a refused call leaves every word. The cells' length is the function's own refusal, 8.
use Rattle.std.specs.Prelude.{Bool, true, false, ◌||◌, Result, Ok, Err, List, ℕ, ℤ, set}
use Rattle.refusal.specs.Number.{number_of, answer_number}
use Rattle.refusal.specs.declared.Refusal.{Refusal}
use Rattle.port_state.specs.Ports.{Ported, refused_with}
use Rattle.port_state.specs.State.{state_words, state_of, state_into}
use Rattle.selmod.specs.Selmod.{selmod_of}
use Rattle.reflectrix.specs.Fobby.{fobby_outcome, cells_after}
use Rattle.reflectrix.specs.declared.Ionogram.{Ionogram}
use Rattle.sounding.specs.Genion.{genion_answer}
use Rattle.losses.specs.Alosfv.{alosfv_answer}
use Rattle.slot_sheet.specs.Sheet.{slot_sheet_of, sheet_cells_of}
use Rattle.slot_sheet.specs.declared.SlotSheet.{SlotSheet}
use Rattle.answer_words.specs.Words.{short}
use Rattle.port_ionogram.specs.Sang.{unless_short}
use Rattle.port_state.specs.Lines.{lines_of_words}
use Rattle.port_ionogram.specs.Layouts.{ionogram_of, ionogram_into, marks_into}

-- ---- the controlling slot

unfoldable pub port_selmod : List ℕ → List ℕ → Ported
port_selmod state out = unless_short (short state state_words || short out 1) out (record { number = 0; words = set out 0 (selmod_of (state_of state)) })

-- ---- the rows

abbrev pub rows_into : Result Ionogram Refusal → List ℕ → Ported
rows_into (Ok ion) w = record { number = 0; words = ionogram_into ion w }
rows_into (Err r) w = refused_with r w

unfoldable pub port_genion : List ℕ → ℕ → List ℕ → Ported
port_genion state k out = unless_short (short state state_words || short out 150) out (rows_into (genion_answer (state_of state) k) out)

unfoldable pub port_alosfv : List ℕ → ℕ → List ℕ → List ℕ → Ported
port_alosfv state k ion layers =
    unless_short (short state state_words || short ion 150 || short layers 44) ion
    (rows_into (alosfv_answer (state_of state) k (ionogram_of ion) (lines_of_words layers)) ion)

-- ---- the reflectrix: its cells as the function leaves them

pub record PortedCells : Type 0 where
  pub number : ℕ
  pub cells : List ℤ

abbrev pub cells_unless_short : Bool → List ℤ → PortedCells → PortedCells
cells_unless_short true cells a = record { number = number_of Refusal.Length; cells = cells }
cells_unless_short false cells a = a

unfoldable pub port_fobby : List ℕ → ℕ → List ℤ → PortedCells
port_fobby ion nang cells =
    cells_unless_short (short ion 150) cells
    (record { number = answer_number (fobby_outcome nang cells); cells = cells_after (ionogram_of ion) nang cells })

-- ---- the slot sheet: 150 words of rows, then the numbers of the fifty marks

pub record PortedSheet : Type 0 where
  pub number : ℕ
  pub state : List ℕ
  pub cells : List ℤ
  pub out : List ℕ

abbrev pub refused_ported_sheet : Refusal → List ℕ → List ℤ → List ℕ → PortedSheet
refused_ported_sheet r state cells out = record { number = number_of r; state = state; cells = cells; out = out }

-- by the sheet's answer; c are its cells
abbrev pub sheet_into : Result SlotSheet Refusal → List ℤ → List ℕ → List ℤ → List ℕ → PortedSheet
sheet_into (Ok a) c state cells out = record { number = 0; state = state_into a.state state; cells = c; out = marks_into a.marks (ionogram_into a.ion out) 150 }
sheet_into (Err r) c state cells out = refused_ported_sheet r state cells out

abbrev pub sheet_unless_short : Bool → List ℕ → List ℤ → List ℕ → PortedSheet → PortedSheet
sheet_unless_short true state cells out a = refused_ported_sheet Refusal.Length state cells out
sheet_unless_short false state cells out a = a

-- the sheet of the numbers that the words stand for, and its cells
abbrev pub sheet_on : List ℕ → ℕ → ℕ → List ℕ → List ℤ → Result SlotSheet Refusal
sheet_on state k nang layers cells = slot_sheet_of (state_of state) k nang (lines_of_words layers) cells

abbrev pub sheet_cells_on : List ℕ → ℕ → ℕ → List ℤ → List ℤ
sheet_cells_on state k nang cells = sheet_cells_of (state_of state) k nang cells

unfoldable pub port_sheet : List ℕ → ℕ → ℕ → List ℕ → List ℤ → List ℕ → PortedSheet
port_sheet state k nang layers cells out =
    sheet_unless_short (short state state_words || short layers 44 || short out 200) state cells out
    (sheet_into (sheet_on state k nang layers cells) (sheet_cells_on state k nang cells) state cells out)
