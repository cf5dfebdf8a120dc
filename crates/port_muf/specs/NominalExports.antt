-- What the export answers, and the words that it leaves. A slice that is shorter than its layout is refused with 1, before all
-- else; nothing is written where a call is refused.
use Rattle.std.specs.Prelude.{Bool, cond, ◌&&◌, List, ℕ, ◌+◌, ◌*◌, ◌/◌, ◌%◌, leb, eqb, length, Result, Ok, Err}
use Rattle.refusal.specs.declared.Refusal.{Refusal}
use Rattle.layers.specs.declared.EsParams.{EsParams}
use Rattle.muf.specs.Sporadic.{no_row}
use Rattle.muf.specs.declared.MufHour.{MufHour}
use Rattle.port_state.specs.Words.{number, floats_of}
use Rattle.port_state.specs.Ports.{Ported, refused_with, points_of, five_rows_of}
use Rattle.port_muf.specs.Floats.{floats}
use Rattle.port_muf.specs.HourWords.{hour_into}
use Rattle.nominal.specs.Nommuf.{nommuf_of}

-- Es row k: four words, fs, hs
unfoldable pub word_row : List ℕ → ℕ → EsParams
word_row es k = record { fs = floats_of es (4 * k) 3; hs = number es (4 * k + 3) }

-- the first n rows, the rest zero
abbrev pub word_rows : List ℕ → ℕ → List EsParams
word_rows es n = five_rows_of (word_row es) no_row n

unfoldable pub nominal_into : Result MufHour Refusal → List ℕ → Ported
nominal_into (Ok hour) out = record { number = 0; words = hour_into hour out }
nominal_into (Err r) out = refused_with r out

-- n points and rows, and every F2M3 there is
unfoldable pub nominal_words : List ℕ → List ℕ → List ℕ → List ℕ → ℕ → Result MufHour Refusal
nominal_words points f2m3 es numbers n = nommuf_of (points_of points n) (floats f2m3) (word_rows es n) n (number numbers 0) (number numbers 1)

-- the room for the hour, the two numbers, and four words of Es for each point; the lists by their lengths
unfoldable pub words_reach : ℕ → ℕ → ℕ → ℕ → Bool
words_reach points es numbers out = leb 54 out && leb 2 numbers && leb (4 * (points / 9)) es

-- whole points, and five at most, as of the F2M3s
unfoldable pub five_at_most : ℕ → ℕ → Bool
five_at_most points f2m3 = eqb (points % 9) 0 && leb points 45 && leb f2m3 5

unfoldable pub nominal_left : List ℕ → List ℕ → List ℕ → List ℕ → List ℕ → Ported
nominal_left points f2m3 es numbers out =
    cond (words_reach (length points) (length es) (length numbers) (length out))
    (cond (five_at_most (length points) (length f2m3))
    (nominal_into (nominal_words points f2m3 es numbers (length points / 9)) out)
    (refused_with Refusal.PointCount out))
    (refused_with Refusal.Length out)
