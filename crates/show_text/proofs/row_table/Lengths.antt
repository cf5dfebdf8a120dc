-- A row has 55 bytes at most, and there are thirty.
use Prim.Native.Nat.{ℕ, ◌+◌}
use lib.ListN.{get_or}
use lib.Ieee.{Float}
use Rattle.lines.specs.Text.{decimal_of}
use Rattle.lines.proofs.Sizes.{AtMost, ◌then◌, word, line-feed, times}
use Rattle.lines.specs.Ascii.{ascii}
use Rattle.lines.proofs.aligned.Widths.{right-most}
use Rattle.figures.proofs.decimal_text.Widths.{number-most}
use Rattle.scalar.specs.F32.{at}
use Rattle.reflectrix.specs.declared.Ionogram.{Ionogram}
use Rattle.show_text.specs.RowTable.{number_column, table_row_fields, segment_text, table_row_line, rows_text}

col : (width places : ℕ) (x : Float) → AtMost (number_column width places x) (2 + width)
unfolding number_column
col width places x = word (ascii "  ") then number-most width places x

fields : (ion : Ionogram) (i : ℕ) → AtMost (table_row_fields ion i) 42
unfolding table_row_fields
fields ion i = col 7 2 (at ion.fvert i) then col 8 1 (at ion.htrue i) then col 10 1 (at ion.hprim i) then col 9 4 (at ion.afac i)

row : (ion : Ionogram) (i : ℕ) → AtMost (table_row_line ion i) 55
unfolding table_row_line
row ion i = right-most 3 (decimal_of (i + 1)) then fields ion i then right-most 9 (segment_text (get_or ion.segment i 0)) then line-feed

pub rows-most : (ion : Ionogram) → AtMost (rows_text ion) 1650
unfolding rows_text
rows-most ion = times (table_row_line ion) 55 30 (λ i l. row ion i)
