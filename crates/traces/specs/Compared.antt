-- What a comparison of two traces answers and leaves.
use Rattle.std.specs.Prelude.{ℕ, ◌+◌, Bool, true, false, ◌&&◌, List, ◌++◌, map, leb, ℤ, Result, Ok, Err, length, drop}
use Rattle.refusal.specs.declared.Refusal.{Refusal}
use Rattle.traces.specs.Trace.{fit}
use Rattle.traces.specs.Lines.{which_number, trace_lines}
use Rattle.traces.specs.declared.trace_lines.Line.{Line}

-- both are traces, and each of the three lists lent has a cell for every row of both, even where fewer lines come of them
abbrev pub ready : List ℕ → List ℕ → List ℕ → List ℕ → List ℕ → List ℕ → List ℤ → Bool
ready a ah b bh khz which difference =
    let rows = length a + length b in
    fit a ah && (fit b bh && (leb rows (length khz) && (leb rows (length which) && leb rows (length difference))))

-- the cells of a list lent, afterwards: a line's number in each of the first, and those past the last line as they were
unfoldable pub column : {A : Type 0} → (Line → A) → List Line → List A → List A
column f ls cells = map f ls ++ drop (length ls) cells

-- the answer, and the three lists lent
pub record Compared : Type 0 where
  pub answer : Result ℕ Refusal
  pub khz : List ℕ
  pub which : List ℕ
  pub difference : List ℤ

abbrev pub compared_by : Bool → List Line → List ℕ → List ℕ → List ℤ → Compared
compared_by true ls khz which difference =
    record {
      answer = Ok (length ls);
      khz = column (λ (l : Line). l.khz) ls khz;
      which = column (λ (l : Line). which_number l.which) ls which;
      difference = column (λ (l : Line). l.difference) ls difference;
    }
compared_by false ls khz which difference =
    record { answer = Err Refusal.Traces; khz = khz; which = which; difference = difference }

unfoldable pub compared_of : List ℕ → List ℕ → List ℕ → List ℕ → List ℕ → List ℕ → List ℤ → Compared
compared_of a ah b bh khz which difference =
    compared_by (ready a ah b bh khz which difference) (trace_lines a ah b bh) khz which difference
