-- A slot's marks have at most 750 bytes: a line has at most fifteen, two digits, a space, eleven characters of a name and the line feed.
use mathlib.Core.List.{List, [], ◌∷◌}
use Prim.Native.Nat.{ℕ, ◌+◌, ◌<◌}
use native.Mathlib.Omega.{arith}
use lib.ListN.{get_or}
use Rattle.lines.specs.Text.{space}
use Rattle.lines.proofs.Sizes.{AtMost, ◌then◌, word, line-feed, digits-below, times}
use Rattle.profile.specs.Mark.{name_of}
use Rattle.profile.specs.declared.shapes.Mark.{Mark}
use Rattle.mark_text.specs.MarkText.{mark_line, no_mark, mark_line_at, marks_text}

pub name : (m : Mark) → AtMost (name_of m) 11
unfolding name_of
name Mark.None = record { most = omega arith }
name Mark.Tail = record { most = omega arith }
name Mark.E = record { most = omega arith }
name Mark.Valley = record { most = omega arith }
name Mark.F1 = record { most = omega arith }
name Mark.F2 = record { most = omega arith }
name Mark.Gap = record { most = omega arith }

line : (i : ℕ) (m : Mark) → i < 50 → AtMost (mark_line i m) 15
unfolding mark_line
line i m h = digits-below 1 (i + 1) (omega arith) then word (space ∷ []) then name m then line-feed

pub marks-most : (marks : List Mark) → AtMost (marks_text marks) 750
unfolding marks_text
marks-most marks = times (mark_line_at marks) 15 50 (λ i h. line i (get_or marks i no_mark) h)
