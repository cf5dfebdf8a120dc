-- Which numbers each export can answer, and no other: 0 where it answers, else the refusal's. First the table, grouped as in include/frequency_sheet.h, then what is said of it: for all lists lent, of any length and with any numbers. An export's contract equates what it returns with the definition named here.
use Rattle.std.specs.Prelude.{true, List, [], ◌∷◌, ◌≡◌, ℕ, ℤ, Float}
use Rattle.records.specs.Chain.{member}
use Rattle.port_circuit.specs.Exports.{port_read, port_write}
use Rattle.port_circuit.specs.WideExports.{port_read128, port_write128}
use Rattle.port_layers.specs.Exports.{port_from_layers, port_ionset, port_lecden, port_owner}
use Rattle.port_heights.specs.Exports.{gethp_left, gethp_scan_left, reading_left, bendy_left, pen_left, xlin_left}
use Rattle.port_muf.specs.F2disWords.{f2dis_left}
use Rattle.port_muf.specs.Exports.{curmuf_left}
use Rattle.port_muf.specs.NominalExports.{nominal_left}
use Rattle.port_ionogram.specs.Sang.{sang_words}
use Rattle.port_ionogram.specs.Exports.{port_selmod, port_genion, port_alosfv, port_fobby, port_sheet}
use Rattle.port_mark.specs.Exports.{mark_left}
use Rattle.port_text.specs.Exports.{sheet_left}
use Rattle.port_figures.specs.Exports.{figure_answer}
use Rattle.port_tariff.specs.Exports.{price_left}
use Rattle.port_totals.specs.Exports.{total_left}
use Rattle.port_traces.specs.Exports.{port_compare, port_trace}

-- ---- Circuit files: a reader has the chain's refusals, a writer those of its room and of km and shape

abbrev pub read_numbers : List ℕ
read_numbers = 0 ∷ 1 ∷ 2 ∷ 3 ∷ 4 ∷ []

abbrev pub write_numbers : List ℕ
write_numbers = 0 ∷ 1 ∷ 2 ∷ []

abbrev pub read128_numbers : List ℕ
read128_numbers = 0 ∷ 1 ∷ 2 ∷ 3 ∷ 4 ∷ []

abbrev pub write128_numbers : List ℕ
write128_numbers = 0 ∷ 1 ∷ 2 ∷ []

-- ---- The state of an hour

abbrev pub from_layers_numbers : List ℕ
from_layers_numbers = 0 ∷ 1 ∷ 5 ∷ []

abbrev pub ionset_numbers : List ℕ
ionset_numbers = 0 ∷ 1 ∷ 5 ∷ []

abbrev pub lecden_numbers : List ℕ
lecden_numbers = 0 ∷ 1 ∷ 6 ∷ []

abbrev pub owner_numbers : List ℕ
owner_numbers = 0 ∷ 1 ∷ []

-- ---- Heights

abbrev pub gethp_numbers : List ℕ
gethp_numbers = 0 ∷ 1 ∷ []

abbrev pub gethp_scan_numbers : List ℕ
gethp_scan_numbers = 0 ∷ 1 ∷ []

abbrev pub reading_numbers : List ℕ
reading_numbers = 0 ∷ 1 ∷ []

abbrev pub bendy_numbers : List ℕ
bendy_numbers = 0 ∷ 1 ∷ 6 ∷ []

abbrev pub pen_numbers : List ℕ
pen_numbers = 0 ∷ 1 ∷ 6 ∷ []

abbrev pub xlin_numbers : List ℕ
xlin_numbers = 0 ∷ 1 ∷ []

-- ---- MUF

abbrev pub f2dis_numbers : List ℕ
f2dis_numbers = 0 ∷ 1 ∷ 10 ∷ 12 ∷ []

abbrev pub curmuf_numbers : List ℕ
curmuf_numbers = 0 ∷ 1 ∷ 9 ∷ 10 ∷ 11 ∷ 12 ∷ []

abbrev pub nommuf_numbers : List ℕ
nommuf_numbers = 0 ∷ 1 ∷ 5 ∷ 9 ∷ []

-- ---- Ionogram and sheet

abbrev pub sang_numbers : List ℕ
sang_numbers = 0 ∷ 1 ∷ 7 ∷ []

abbrev pub selmod_numbers : List ℕ
selmod_numbers = 0 ∷ 1 ∷ []

abbrev pub genion_numbers : List ℕ
genion_numbers = 0 ∷ 1 ∷ 6 ∷ 19 ∷ []

abbrev pub alosfv_numbers : List ℕ
alosfv_numbers = 0 ∷ 1 ∷ 6 ∷ []

abbrev pub fobby_numbers : List ℕ
fobby_numbers = 0 ∷ 1 ∷ 8 ∷ []

abbrev pub port_sheet_numbers : List ℕ
port_sheet_numbers = 0 ∷ 1 ∷ 6 ∷ 8 ∷ []

-- ---- A circuit's sheet, marked and as text: the refusals of `sheet`, and 20 for a sheet that is too long to be marked

abbrev pub mark_numbers : List ℕ
mark_numbers = 0 ∷ 1 ∷ 2 ∷ 3 ∷ 4 ∷ 7 ∷ 9 ∷ 11 ∷ 12 ∷ 20 ∷ []

abbrev pub sheet_text_numbers : List ℕ
sheet_text_numbers = 0 ∷ 1 ∷ 2 ∷ 3 ∷ 4 ∷ 7 ∷ 9 ∷ 11 ∷ 12 ∷ []

-- ---- Figure, price, total

abbrev pub figure_numbers : List ℕ
figure_numbers = 0 ∷ 1 ∷ []

abbrev pub price_numbers : List ℕ
price_numbers = 0 ∷ 1 ∷ 15 ∷ 16 ∷ []

abbrev pub total_numbers : List ℕ
total_numbers = 0 ∷ 1 ∷ 17 ∷ []

abbrev pub total_last_numbers : List ℕ
total_last_numbers = 0 ∷ 1 ∷ 17 ∷ []

-- ---- Traces

abbrev pub compare_numbers : List ℕ
compare_numbers = 0 ∷ 1 ∷ 18 ∷ []

abbrev pub trace_numbers : List ℕ
trace_numbers = 0 ∷ 1 ∷ 18 ∷ []

-- the number is one of these
abbrev pub OneOf : List ℕ → ℕ → Type 0
OneOf numbers n = member n numbers ≡ true

-- what `export-refusals` says, a field for each export
pub record ExportRefusals : Type 0 where
  -- ---- Circuit files
  pub read : (file out : List ℕ) → OneOf read_numbers (port_read file out).number
  pub write : (words file out : List ℕ) → OneOf write_numbers (port_write words file out).number
  pub read128 : (file out : List ℕ) → OneOf read128_numbers (port_read128 file out).number
  pub write128 : (words file out : List ℕ) → OneOf write128_numbers (port_write128 words file out).number
  -- ---- The state of an hour
  pub from-layers : (points state : List ℕ) → OneOf from_layers_numbers (port_from_layers points state).number
  pub ionset : (state : List ℕ) → OneOf ionset_numbers (port_ionset state).number
  pub lecden : (state : List ℕ) (k : ℕ) → OneOf lecden_numbers (port_lecden state k).number
  pub owner : (state out : List ℕ) → OneOf owner_numbers (port_owner state out).number
  -- ---- Heights
  pub gethp : (state : List ℕ) (fxx : ℕ) (out : List ℕ) → OneOf gethp_numbers (gethp_left state fxx out).number
  pub gethp-scan : (state : List ℕ) (fxx : ℕ) (out : List ℕ) → OneOf gethp_scan_numbers (gethp_scan_left state fxx out).number
  pub reading : (state : List ℕ) (zi : ℕ) (out : List ℕ) → OneOf reading_numbers (reading_left state zi out).number
  pub bendy : (state : List ℕ) (i k f : ℕ) (out : List ℕ) → OneOf bendy_numbers (bendy_left state i k f out).number
  pub pen : (state : List ℕ) (i k f : ℕ) (out : List ℕ) → OneOf pen_numbers (pen_left state i k f out).number
  pub xlin : (x : ℕ) (xn yn out : List ℕ) → OneOf xlin_numbers (xlin_left x xn yn out).number
  -- ---- MUF
  pub f2dis : (deciles : List Float) (numbers out : List ℕ) → OneOf f2dis_numbers (f2dis_left deciles numbers out).number
  pub curmuf : (state es : List ℕ) (deciles : List Float) (clat clck numbers out : List ℕ) → OneOf curmuf_numbers (curmuf_left state es deciles clat clck numbers out).number
  pub nommuf : (points f2m3 es numbers out : List ℕ) → OneOf nommuf_numbers (nominal_left points f2m3 es numbers out).number
  -- ---- Ionogram and sheet
  pub sang : (gcdkm amind : ℕ) (out : List ℕ) → OneOf sang_numbers (sang_words gcdkm amind out).number
  pub selmod : (state out : List ℕ) → OneOf selmod_numbers (port_selmod state out).number
  pub genion : (state : List ℕ) (k : ℕ) (out : List ℕ) → OneOf genion_numbers (port_genion state k out).number
  pub alosfv : (state : List ℕ) (k : ℕ) (ion layers : List ℕ) → OneOf alosfv_numbers (port_alosfv state k ion layers).number
  pub fobby : (ion : List ℕ) (nang : ℕ) (cells : List ℤ) → OneOf fobby_numbers (port_fobby ion nang cells).number
  pub sheet : (state : List ℕ) (k nang : ℕ) (layers : List ℕ) (cells : List ℤ) (out : List ℕ) → OneOf port_sheet_numbers (port_sheet state k nang layers cells out).number
  -- ---- A circuit's sheet, marked and as text
  pub mark : (input out : List ℕ) → OneOf mark_numbers (mark_left input out).number
  pub sheet-text : (file out length : List ℕ) → OneOf sheet_text_numbers (sheet_left file out length).number
  -- ---- Figure, price, total
  pub figure : (out : List ℕ) → OneOf figure_numbers (figure_answer out)
  pub price : (muf : ℕ) (tops rates : List ℕ) (seconds : ℕ) (out : List ℕ) → OneOf price_numbers (price_left muf tops rates seconds out).number
  pub total : (prices out : List ℕ) → OneOf total_numbers (total_left prices out).number
  -- the contract of `port_total_last` has the same definition
  pub total-last : (prices out : List ℕ) → OneOf total_last_numbers (total_left prices out).number
  -- ---- Traces
  pub compare : (a ah b bh khz which : List ℕ) (difference : List ℤ) (out : List ℕ) → OneOf compare_numbers (port_compare a ah b bh khz which difference out).number
  pub trace : (rows khz height : List ℕ) → OneOf trace_numbers (port_trace rows khz height).number
