-- The lines of two traces. The definition says of each kHz what its line is; that the lines are the only ones with the properties
-- asked for is stated in Held.
use Rattle.std.specs.Prelude.{ℕ, cond, List, [], ◌∷◌, map, eqb, ltb, pos, ◌-ℤ◌, get_or}
use Rattle.std.proofs.Math.Option.{Option, none, some}
use Rattle.traces.specs.Trace.{height_at_khz}
use Rattle.traces.specs.declared.trace_lines.Line.{Line}
use Rattle.traces.specs.declared.trace_lines.Which.{Which}

-- which of the traces have a row at a line's kHz
abbrev pub in_both : ℕ
in_both = 0

abbrev pub in_first : ℕ
in_first = 1

abbrev pub in_second : ℕ
in_second = 2

abbrev pub which_number : Which → ℕ
which_number Which.Both = in_both
which_number Which.First = in_first
which_number Which.Second = in_second

-- how many rows of the first, and of the second, a line so marked accounts for
abbrev pub of_first : Which → ℕ
of_first which = cond (eqb (which_number which) in_second) 0 1

abbrev pub of_second : Which → ℕ
of_second which = cond (eqb (which_number which) in_first) 0 1

-- a kHz put in its place among rising ones; it is not put a second time
unfoldable pub put : ℕ → List ℕ → List ℕ
put f [] = f ∷ []
put f (x ∷ l) = cond (ltb f x) (f ∷ x ∷ l) (cond (eqb f x) (x ∷ l) (x ∷ put f l))

-- the kHz of either trace: those of the second, each put in its place among those of the first
unfoldable pub listed : List ℕ → List ℕ → List ℕ
listed xs [] = xs
listed xs (y ∷ ys) = put y (listed xs ys)

-- the line at a kHz that is listed, by the heights there: the first less the second, 0 where there is one only
abbrev pub line_by : Option ℕ → Option ℕ → ℕ → Line
line_by (some h) (some k) f = record { khz = f; which = Which.Both; difference = pos h -ℤ pos k }
line_by (some h) none f = record { khz = f; which = Which.First; difference = pos 0 }
line_by none k f = record { khz = f; which = Which.Second; difference = pos 0 }

abbrev pub trace_line : List ℕ → List ℕ → List ℕ → List ℕ → ℕ → Line
trace_line a ah b bh f = line_by (height_at_khz a ah f) (height_at_khz b bh f) f

-- a and b are the kHz of the first and of the second, ah and bh their heights
unfoldable pub trace_lines : List ℕ → List ℕ → List ℕ → List ℕ → List Line
trace_lines a ah b bh = map (trace_line a ah b bh) (listed a b)

-- line n, counted from 0; past the last, where nothing reads, one of zeros
abbrev pub line_at : List Line → ℕ → Line
line_at ls n = get_or ls n (record { khz = 0; which = Which.Both; difference = pos 0 })
