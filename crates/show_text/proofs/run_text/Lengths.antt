-- The runs of a slot have at most 1,100 bytes: at each height at most a start of six and an end of sixteen.
use mathlib.Core.Bool.{Bool, true, false}
use mathlib.Core.List.{List}
use Prim.Native.Nat.{ℕ}
use native.Mathlib.Omega.{arith}
use Rattle.lines.specs.Text.{decimal_of}
use Rattle.lines.proofs.Sizes.{AtMost, ◌then◌, word, line-feed, times}
use Rattle.lines.specs.Ascii.{ascii}
use Rattle.lines.proofs.aligned.Widths.{right-most}
use Rattle.profile.specs.declared.shapes.Mark.{Mark}
use Rattle.mark_text.proofs.Lengths.{name}
use Rattle.show_text.specs.RunText.{start_at, end_at, mark_at, begins_at, ends_at, start_text, end_text, run_text, runs_text}

first : (n : ℕ) → AtMost (start_at n) 6
unfolding start_at
first n = right-most 2 (decimal_of n) then word (ascii " to ")

last : (n : ℕ) (m : Mark) → AtMost (end_at n m) 16
unfolding end_at
last n m = right-most 2 (decimal_of n) then word (ascii "  ") then name m then line-feed

start : (b : Bool) (i : ℕ) → AtMost (start_text b i) 6
unfolding start_text
start true i = first _
start false i = record { most = omega arith }

end : (b : Bool) (i : ℕ) (m : Mark) → AtMost (end_text b i m) 16
unfolding end_text
end true i m = last _ m
end false i m = record { most = omega arith }

pub runs-most : (marks : List Mark) → AtMost (runs_text marks) 1100
unfolding runs_text run_text
runs-most marks = times (run_text marks) 22 50 (λ i h. start (begins_at marks i) i then end (ends_at marks i) i (mark_at marks i))
