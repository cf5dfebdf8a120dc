-- The digits that i others follow, and those before them, are put.
use Rattle.std.proofs.Common.{◌≡◌, ◌-◌, ◌/◌}
use Prim.Native.Nat.{◌^◌}
use Rattle.io.specs.Digits.{last_digits}
use Rattle.lines.specs.Text.{with_text}
use Rattle.figures.proofs.decimal_text.put_digits.Given as goal

abbrev pub invariant-loop-i : goal.invariant-loop-i
invariant-loop-i g l = l.page ≡ with_text g.row.N l.initial.page (last_digits 10 (l.k - l.i) (l.n / 10 ^ l.i))
