-- The lines that are left, added to the draft, are the lines of the text added to no draft.
use mathlib.Core.Path.{◌≡◌}
use Prim.Native.Nat.{◌+◌, ◌≤◌}
use lib.ListN.{length}
use Rattle.first_difference.specs.Lines.{lines_of}
use Rattle.composing.specs.Draft.{with_lines, composed_of}
use Rattle.composing.proofs.compose_text.compose.Given as goal

abbrev pub invariant-loop-line : goal.invariant-loop-line
invariant-loop-line l =
    record {
      counted : l.number + length l.line-iterator.rest.now ≤ length l.text + 1;
      circuit : with_lines l.draft l.number (lines_of l.line-iterator.rest.now) ≡ composed_of l.text;
    }
