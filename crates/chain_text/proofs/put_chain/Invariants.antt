-- After so many turns the lines of so many steps are put.
use Rattle.std.proofs.Common.{◌≡◌}
use Rattle.lines.specs.Text.{with_text, joined}
use Rattle.chain_text.specs.ChainText.{step_line_at}
use Rattle.chain_text.proofs.put_chain.Given as goal

abbrev pub invariant-loop-n : goal.invariant-loop-n
invariant-loop-n g l = l.page ≡ with_text g.row.N l.initial.page (joined (step_line_at l.file l.chain.order) l.n-index)
