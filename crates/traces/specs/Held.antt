-- What the lines of two traces are, by their properties alone, and that nothing else has them.
use Rattle.std.specs.Prelude.{ℕ, ◌+◌, ◌<◌, ◌≡◌, true, cond, ◌⊎◌, List, [], ◌∷◌, map, eqb, pos, ◌-ℤ◌, length, get_or}
use Rattle.traces.specs.Trace.{rises, TraceRows}
use Rattle.traces.specs.Lines.{in_both, which_number, trace_lines, line_at}
use Rattle.traces.specs.declared.trace_lines.Line.{Line}
use Rattle.traces.specs.declared.trace_lines.Which.{Which}

-- one of the numbers is f
pub record Has (xs : List ℕ) (f : ℕ) : Type 0 where
  pub place : ℕ
  pub within : place < length xs
  pub is : get_or xs place 0 ≡ f

-- one of the rows is f kHz and height h
pub record HasRow (xs hs : List ℕ) (f h : ℕ) : Type 0 where
  pub place : ℕ
  pub within : place < length xs
  pub khz : get_or xs place 0 ≡ f
  pub height : get_or hs place 0 ≡ h

-- what a line says is so
pub data True (a ah b bh : List ℕ) (l : Line) : Type 0 where
  both : (f h k : ℕ) → HasRow a ah f h → HasRow b bh f k → l ≡ record { khz = f; which = Which.Both; difference = pos h -ℤ pos k }
      → True a ah b bh l
  first : (f h : ℕ) → HasRow a ah f h → (Has b f → ⊥) → l ≡ record { khz = f; which = Which.First; difference = pos 0 }
      → True a ah b bh l
  second : (f k : ℕ) → HasRow b bh f k → (Has a f → ⊥) → l ≡ record { khz = f; which = Which.Second; difference = pos 0 }
      → True a ah b bh l

-- exactly one line is at f kHz
pub record OneLine (ls : List Line) (f : ℕ) : Type 0 where
  pub place : ℕ
  pub within : place < length ls
  pub khz : (line_at ls place).khz ≡ f
  pub only : (n : ℕ) → n < length ls → (line_at ls n).khz ≡ f → n ≡ place

-- how many lines are in both
unfoldable pub shared : List Line → ℕ
shared [] = 0
shared (l ∷ ls) = cond (eqb (which_number l.which) in_both) 1 0 + shared ls

abbrev pub lines_khz : List Line → List ℕ
lines_khz ls = map (λ (l : Line). l.khz) ls

-- the lines hold the one trace against the other
pub record Held (a ah b bh : List ℕ) (ls : List Line) : Type 0 where
  -- their kHz rise, and are those of either trace and no other
  pub rising : rises (lines_khz ls) ≡ true
  pub every : (f : ℕ) → Has a f ⊎ Has b f → Has (lines_khz ls) f
  pub no_other : (f : ℕ) → Has (lines_khz ls) f → Has a f ⊎ Has b f
  -- each says what is so: in both, with the difference; in the first only; in the second only
  pub true-lines : (n : ℕ) → n < length ls → True a ah b bh (line_at ls n)
  -- each row of each trace is accounted for in exactly one
  pub first_rows : (i : ℕ) → i < length a → OneLine ls (get_or a i 0)
  pub second-rows : (j : ℕ) → j < length b → OneLine ls (get_or b j 0)

-- the lines of two traces hold them against one another
abbrev pub LinesHold : Type 0
LinesHold = (a ah b bh : List ℕ) → TraceRows a ah → TraceRows b bh → Held a ah b bh (trace_lines a ah b bh)

-- no other lines do
abbrev pub OnlyLines : Type 0
OnlyLines =
    (a ah b bh : List ℕ) (ls : List Line) → TraceRows a ah → TraceRows b bh → Held a ah b bh ls → ls ≡ trace_lines a ah b bh

-- there are as many as there are rows, those at a kHz of both counted once
abbrev pub LinesCount : Type 0
LinesCount =
    (a ah b bh : List ℕ) → TraceRows a ah → TraceRows b bh
    → length (trace_lines a ah b bh) + shared (trace_lines a ah b bh) ≡ length a + length b
