-- After i turns the first i rows are put.
use Rattle.std.proofs.Common.{◌≡◌}
use Rattle.lines.specs.Text.{with_text, joined}
use Rattle.show_text.specs.RowTable.{table_row_line}
use Rattle.show_text.proofs.row_table.put_rows.Given as goal

abbrev pub invariant-loop-i : goal.invariant-loop-i
invariant-loop-i g l = l.page ≡ with_text g.row.N l.initial.page (joined (table_row_line l.ion) l.i)
