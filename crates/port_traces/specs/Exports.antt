-- What each export answers, 0 or the refusal's number, and the lists lent, afterwards. A list that is shorter than its layout
-- is refused with 1, before all else; a refused call leaves everything.
use Rattle.std.specs.Prelude.{Bool, true, false, ◌||◌, List, ◌++◌, ℕ, ℤ, Result, Ok, Err, length, drop}
use Rattle.refusal.specs.Number.{number_of, answer_number}
use Rattle.refusal.specs.declared.Refusal.{Refusal}
use Rattle.port_state.specs.Words.{floats_of}
use Rattle.traces.specs.Compared.{Compared, compared_of}
use Rattle.answer_words.specs.Words.{short, number_left}
use Rattle.traces.specs.Computed.{trace_of}
use Rattle.traces.specs.declared.computed_trace.ComputedTrace.{ComputedTrace}

-- ---- the lines of two traces

pub record PortedLines : Type 0 where
  pub number : ℕ
  pub khz : List ℕ
  pub which : List ℕ
  pub difference : List ℤ
  pub out : List ℕ

-- answered: the count is written
abbrev pub lines_into : Compared → List ℕ → PortedLines
lines_into c out =
    record {
      number = answer_number c.answer;
      khz = c.khz;
      which = c.which;
      difference = c.difference;
      out = number_left c.answer out;
    }

abbrev pub lines_unless : Bool → Compared → List ℕ → List ℕ → List ℤ → List ℕ → PortedLines
lines_unless true c khz which difference out =
    record { number = number_of Refusal.Length; khz = khz; which = which; difference = difference; out = out }
lines_unless false c khz which difference out = lines_into c out

unfoldable pub port_compare : List ℕ → List ℕ → List ℕ → List ℕ → List ℕ → List ℕ → List ℤ → List ℕ → PortedLines
port_compare a ah b bh khz which difference out =
    lines_unless (short out 1) (compared_of a ah b bh khz which difference) khz which difference out

-- ---- an ionogram's rows as a trace: 30 words fvert, then 30 words hprim

pub record PortedTrace : Type 0 where
  pub number : ℕ
  pub khz : List ℕ
  pub height : List ℕ

abbrev pub refused_trace : Refusal → List ℕ → List ℕ → PortedTrace
refused_trace r khz height = record { number = number_of r; khz = khz; height = height }

-- the words of x, and those past them as they were
abbrev pub words_at_start : List ℕ → List ℕ → List ℕ
words_at_start x w = x ++ drop (length x) w

abbrev pub trace_into : Result ComputedTrace Refusal → List ℕ → List ℕ → PortedTrace
trace_into (Ok t) khz height = record { number = 0; khz = words_at_start t.khz khz; height = words_at_start t.height height }
trace_into (Err r) khz height = refused_trace r khz height

abbrev pub trace_unless : Bool → Result ComputedTrace Refusal → List ℕ → List ℕ → PortedTrace
trace_unless true t khz height = refused_trace Refusal.Length khz height
trace_unless false t khz height = trace_into t khz height

unfoldable pub port_trace : List ℕ → List ℕ → List ℕ → PortedTrace
port_trace rows khz height =
    trace_unless (short rows 60 || (short khz 30 || short height 30)) (trace_of (floats_of rows 0 30) (floats_of rows 30 30)) khz height
