-- A computed ionogram as a trace: the kHz of a row are fvert times 1000, its height hprim times 10, each an exact product
-- rounded to the nearest whole number, an exact half to the even one.
use Rattle.std.specs.Prelude.{ℕ, ◌≡◌, Bool, true, false, ◌&&◌, not, cond, List, [], ◌∷◌, map, ltb, Result, Ok, Err, Float, length}
use Rattle.refusal.specs.declared.Refusal.{Refusal}
use Rattle.scalar.specs.F32.{◌<f◌}
use Rattle.scalar.specs.Literals.{f0}
use Rattle.figures.specs.Nearest.{past, times_of}
use Rattle.traces.specs.Trace.{rises, fit}
use Rattle.traces.specs.declared.computed_trace.ComputedTrace.{ComputedTrace}

-- not below zero, as -0 is not either, and k times it, rounded, is a u32: no multiple of a NaN or of an infinity is
abbrev pub fit_number : ℕ → Float → Bool
fit_number k x = not (x <f f0) && ltb (times_of k x) past

unfoldable pub all_fit : ℕ → List Float → Bool
all_fit k [] = true
all_fit k (x ∷ l) = fit_number k x && all_fit k l

abbrev pub khz_rows : List Float → List ℕ
khz_rows fvert = map (times_of 1000) fvert

abbrev pub height_rows : List Float → List ℕ
height_rows hprim = map (times_of 10) hprim

-- a column's numbers, where all are fit
abbrev pub fit_column_of : ℕ → List Float → Result (List ℕ) Refusal
fit_column_of k x = cond (all_fit k x) (Ok (map (times_of k) x)) (Err Refusal.Traces)

abbrev pub trace_by : Bool → List ℕ → List ℕ → Result ComputedTrace Refusal
trace_by true khz height = Ok (record { khz = khz; height = height })
trace_by false khz height = Err Refusal.Traces

-- fvert and hprim of the thirty rows
unfoldable pub trace_of : List Float → List Float → Result ComputedTrace Refusal
trace_of fvert hprim =
    trace_by (all_fit 1000 fvert && (all_fit 10 hprim && rises (khz_rows fvert))) (khz_rows fvert) (height_rows hprim)

-- an answer is a trace
abbrev pub TraceFits : Type 0
TraceFits =
    (fvert hprim : List Float) (t : ComputedTrace) → length fvert ≡ 30 → length hprim ≡ 30 → trace_of fvert hprim ≡ Ok t
    → fit t.khz t.height ≡ true
