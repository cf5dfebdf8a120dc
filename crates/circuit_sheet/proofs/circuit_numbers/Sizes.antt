-- There are five points, with four Es numbers each; km of them are lent.
use mathlib.Core.Path.{◌≡◌, sym, ap}
use mathlib.Core.List.{List}
use Prim.Native.Nat.{ℕ, ◌*◌, ◌≤◌}
use native.Mathlib.Omega.{arith}
use lib.ListN.{length, take}
use lib.Seq.{length-take-le}
use lib.Ieee.{Float}
use Rattle.circuit_sheet.specs.Numbers.{es_up_to, es_of, column_of}

pub es-lent : (w : List ℕ) (es : List Float) (km : ℕ) → es ≡ es_of w → km ≤ 5 → 4 * km ≡ length (take (4 * km) es)
unfolding es_of es_up_to
es-lent w es km e h =
    let l : length es ≡ 20 = ap length e in
    sym (length-take-le (4 * km) es (omega arith))

pub column-lent : (w : List ℕ) (j : ℕ) (l : List Float) (km : ℕ) → l ≡ column_of w j → km ≤ 5 → km ≡ length (take km l)
unfolding column_of
column-lent w j l km e h =
    let n : length l ≡ 5 = ap length e in
    sym (length-take-le km l (omega arith))
