-- Figure, price, total and traces: the room lent, then the refusals of the functions.
use mathlib.Core.Bool.{◌&&◌, ◌||◌}
use mathlib.Core.List.{List}
use mathlib.Core.Path.{refl}
use Rattle.std.specs.Prelude.{Result, IfErr}
use Rattle.refusal.specs.Number.{answer_number}
use Rattle.refusal.specs.declared.Refusal.{Refusal}
use Prim.Native.Nat.{ℕ}
use lib.Dec.{leb, ltb}
use lib.IntN.{ℤ}
use lib.ListN.{length}
use lib.Ieee.{Float, binary32, of_bits}
use Rattle.records.specs.Chain.{member}
use Rattle.figures.specs.Figure.{figure_of}
use Rattle.figures.specs.declared.Printed.{Printed}
use Rattle.tariff.specs.Price.{tariff_good, first_band, figure_price, printed_price, price_of}
use Rattle.totals.specs.Total.{prices_good, total_of}
use Rattle.traces.specs.Lines.{trace_lines}
use Rattle.traces.specs.Trace.{rises}
use Rattle.traces.specs.Compared.{ready, compared_by, compared_of}
use Rattle.traces.specs.Computed as computed
use Rattle.port_state.specs.Words.{floats_of}
use Rattle.port_figures.specs.Exports.{figure_answer}
use Rattle.answer_words.specs.Words.{short}
use Rattle.port_tariff.specs.Exports as tariff
use Rattle.port_totals.specs.Exports as totals
use Rattle.port_traces.specs.Exports.{lines_unless, port_compare, trace_into, trace_unless, port_trace}
use Rattle.sheet_refusals.specs.Refusals.{Among}
use Rattle.export_refusals.specs.Exports.{OneOf, figure_numbers, price_numbers, total_numbers, compare_numbers, trace_numbers}
use Rattle.export_refusals.proofs.Cases.{both, either, by-answer}

pub figure-numbers : (out : List ℕ) → OneOf figure_numbers (figure_answer out)
unfolding figure_answer member
figure-numbers out = either (OneOf figure_numbers) (ltb (length out) 5) _ _ refl refl

-- ---- the price

abbrev Priced : Result ℕ Refusal → Type 0
Priced c = OneOf price_numbers (answer_number c)

printed-in : (p : Printed) (tops rates : List ℕ) (seconds : ℕ) → Priced (printed_price p tops rates seconds)
unfolding figure_price member
printed-in (Printed.Tenths n) tops rates seconds = either Priced (ltb (first_band n tops) (length tops)) _ _ (either Priced (leb 1 seconds && leb seconds 86400) _ _ refl refl) refl
printed-in (Printed.Minus n) tops rates seconds = refl
printed-in Printed.Stars tops rates seconds = refl
printed-in Printed.Infinite tops rates seconds = refl
printed-in Printed.NotANumber tops rates seconds = refl

pub price-numbers : (muf : ℕ) (tops rates : List ℕ) (seconds : ℕ) (out : List ℕ) → OneOf price_numbers (tariff.price_left muf tops rates seconds out).number
unfolding tariff.price_left price_of member
price-numbers muf tops rates seconds out =
    either (λ (a : tariff.Ported). OneOf price_numbers a.number) (ltb (length out) 1) _ _ refl
    (either Priced (tariff_good tops rates) _ _ (printed-in (figure_of (of_bits binary32 muf)) tops rates seconds) refl)

-- ---- the total

pub total-numbers : (prices out : List ℕ) → OneOf total_numbers (totals.total_left prices out).number
unfolding totals.total_left total_of member
total-numbers prices out =
    either (λ (a : totals.Ported). OneOf total_numbers a.number) (ltb (length out) 1) _ _ refl
    (either (λ (t : Result ℕ Refusal). OneOf total_numbers (answer_number t)) (leb (length prices) 256 && prices_good prices) _ _ refl refl)

-- ---- traces

pub compare-numbers : (a ah b bh khz which : List ℕ) (difference : List ℤ) (out : List ℕ) → OneOf compare_numbers (port_compare a ah b bh khz which difference out).number
unfolding port_compare compared_of member
compare-numbers a ah b bh khz which difference out =
    let c = compared_of a ah b bh khz which difference in
    both (λ x. OneOf compare_numbers (lines_unless x c khz which difference out).number) refl
    (both (λ x. OneOf compare_numbers (answer_number (compared_by x (trace_lines a ah b bh) khz which difference).answer)) refl refl (ready a ah b bh khz which difference))
    (short out 1)

trace-in : (fvert hprim : List Float) → IfErr (computed.trace_of fvert hprim) (Among trace_numbers)
unfolding computed.trace_of member
trace-in fvert hprim =
    both (λ b. IfErr (computed.trace_by b (computed.khz_rows fvert) (computed.height_rows hprim)) (Among trace_numbers)) tt refl
    (computed.all_fit 1000 fvert && (computed.all_fit 10 hprim && rises (computed.khz_rows fvert)))

pub trace-numbers : (rows khz height : List ℕ) → OneOf trace_numbers (port_trace rows khz height).number
unfolding port_trace member
trace-numbers rows khz height =
    let t = computed.trace_of (floats_of rows 0 30) (floats_of rows 30 30) in
    both (λ b. OneOf trace_numbers (trace_unless b t khz height).number) refl
    (by-answer trace_numbers (λ a. (trace_into a khz height).number) (λ x. refl) (λ r. refl) t (trace-in (floats_of rows 0 30) (floats_of rows 30 30)))
    (short rows 60 || (short khz 30 || short height 30))
