-- What the exports read from words and write there: the thirty rows, the fifty marks.
use Rattle.std.specs.Prelude.{List, map, ℕ}
use Rattle.port_circuit.specs.Words.{words_from, words_into}
use Rattle.port_state.specs.Words.{floats_of, floats_into}
use Rattle.reflectrix.specs.declared.Ionogram.{Ionogram}
use Rattle.profile.specs.Mark.{mark_number_of}
use Rattle.profile.specs.declared.shapes.Mark.{Mark}

-- 150 words: fvert, hprim, htrue, afac, segment
unfoldable pub ionogram_of : List ℕ → Ionogram
ionogram_of w = record { fvert = floats_of w 0 30; hprim = floats_of w 30 30; htrue = floats_of w 60 30; afac = floats_of w 90 30; segment = words_from w 120 30 }

-- words past the 150 stay
unfoldable pub ionogram_into : Ionogram → List ℕ → List ℕ
ionogram_into ion w = words_into (floats_into (floats_into (floats_into (floats_into w 0 ion.fvert) 30 ion.hprim) 60 ion.htrue) 90 ion.afac) 120 ion.segment

-- the numbers of the marks, from word `from` on
unfoldable pub marks_into : List Mark → List ℕ → ℕ → List ℕ
marks_into marks w from = words_into w from (map mark_number_of marks)
