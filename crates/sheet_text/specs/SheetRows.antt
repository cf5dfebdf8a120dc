-- The text of a slot's thirty rows.
use Rattle.std.specs.Prelude.{List, [], ◌∷◌, ◌++◌, ℕ, ◌+◌, get_or, Float}
use Rattle.std.specs.Float.{binary32}
use Rattle.std.specs.Float.Ieee.{to_bits}
use Rattle.lines.specs.Text.{space, line_feed, decimal_of, hex_of, field_of}
use Rattle.scalar.specs.F32.{at}
use Rattle.reflectrix.specs.declared.Ionogram.{Ionogram}

-- one space, then the eight digits of a number's bits; those of NaN are 7fc00000
unfoldable pub bits_field : Float → List ℕ
bits_field x = space ∷ hex_of (to_bits binary32 x)

-- row i, numbered from 1: fvert, htrue, hprim, afac
unfoldable pub row_fields : Ionogram → ℕ → List ℕ
row_fields ion i = bits_field (at ion.fvert i) ++ (bits_field (at ion.htrue i) ++ (bits_field (at ion.hprim i) ++ bits_field (at ion.afac i)))

-- last in its row: the segment of the true height, in decimal
unfoldable pub row_line : Ionogram → ℕ → List ℕ
row_line ion i = decimal_of (i + 1) ++ (row_fields ion i ++ (field_of (get_or ion.segment i 0) ++ (line_feed ∷ [])))
