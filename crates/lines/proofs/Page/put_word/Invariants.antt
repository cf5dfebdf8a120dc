-- The bytes of the word before b are put.
use Rattle.std.proofs.Common.{◌≡◌, take}
use Rattle.lines.specs.Text.{with_text}
use Rattle.lines.proofs.Page.put_word.Given as goal

abbrev pub invariant-loop-b : goal.invariant-loop-b
invariant-loop-b g l = l.self ≡ with_text g.row.N l.initial.self (take l.b-index l.word)
