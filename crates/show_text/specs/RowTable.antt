-- A slot's rows for the eye: the row's number, frequency in MHz, true and virtual height in km, loss factor, and the segment of the profile on which the true height was found. Every column has its width, whatever stands in it.
use Rattle.std.specs.Prelude.{cond, List, [], ◌∷◌, ◌++◌, ℕ, ◌+◌, eqb, get_or, Float}
use Rattle.lines.specs.Text.{line_feed, decimal_of, joined}
use Rattle.lines.specs.Ascii.{ascii}
use Rattle.lines.specs.Aligned.{right}
use Rattle.figures.specs.Number.{number_text}
use Rattle.scalar.specs.F32.{at}
use Rattle.reflectrix.specs.declared.Ionogram.{Ionogram}

-- a number after two spaces
unfoldable pub number_column : ℕ → ℕ → Float → List ℕ
number_column width places v = ascii "  " ++ number_text width places v

-- fvert in MHz to two places, htrue and hprim in km to one, afac to four
unfoldable pub table_row_fields : Ionogram → ℕ → List ℕ
table_row_fields ion i = number_column 7 2 (at ion.fvert i) ++ (number_column 8 1 (at ion.htrue i) ++ (number_column 10 1 (at ion.hprim i) ++ number_column 9 4 (at ion.afac i)))

-- 50 where nothing was sought, 49 where no segment holds the height
unfoldable pub segment_text : ℕ → List ℕ
segment_text n = cond (eqb n 50) (ascii "-") (cond (eqb n 49) (ascii "top") (decimal_of n))

-- row i, numbered from 1
unfoldable pub table_row_line : Ionogram → ℕ → List ℕ
table_row_line ion i = right 3 (decimal_of (i + 1)) ++ (table_row_fields ion i ++ (right 9 (segment_text (get_or ion.segment i 0)) ++ (line_feed ∷ [])))

unfoldable pub rows_text : Ionogram → List ℕ
rows_text ion = joined (table_row_line ion) 30
