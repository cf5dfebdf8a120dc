-- Why a circuit file was turned away, in the words of README's table: 1 to 4 are of the file, the others of the hour.
use Rattle.std.specs.Prelude.{cond, List, ℕ, leb, eqb}
use Rattle.refusal.specs.declared.Refusal.{Refusal}
use Rattle.refusal.specs.Number.{number_of}
use Rattle.lines.specs.Ascii.{ascii}

unfoldable pub file_reason : ℕ → List ℕ
file_reason n =
    cond (eqb n 1) (ascii "the file's length is not a multiple of 64, or not 128 to 4096 bytes")
    (cond (eqb n 2) (ascii "record 0: kind, number of points, shape, or a byte that must be zero")
    (cond (eqb n 3) (ascii "a step of the chain leads past the last record, or to a record met before")
    (ascii "a record has the wrong kind or a byte that must be zero, or the chain is too short or too long")))

unfoldable pub hour_reason : ℕ → List ℕ
hour_reason n =
    cond (eqb n 7) (ascii "the path length in kilometres is below 0, or not a number")
    (cond (eqb n 9) (ascii "path length outside 0 to 40100 km or 0 to 6.3 radians, or least takeoff angle above 90 degrees")
    (cond (eqb n 11) (ascii "a layer's hop count, before its plus one, is not 0 to 999")
    (cond (eqb n 12) (ascii "the first decile number is above 0 or not a number, and the clock at the controlling slot has no time block")
    (ascii "no circuit file is refused with this number"))))

unfoldable pub reason_of : Refusal → List ℕ
reason_of r = cond (leb (number_of r) 4) (file_reason (number_of r)) (hour_reason (number_of r))
