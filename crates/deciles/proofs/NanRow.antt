-- No comparison with a NaN holds.
use mathlib.Core.Path.{refl}
use lib.Ieee.{le, lt, of_bits}
use Rattle.deciles.specs.F2dis.{sunspot_row_of}
use Rattle.deciles.specs.NanRow.{NanMiddle}

pub nan-middle : NanMiddle
unfolding sunspot_row_of le lt of_bits
nan-middle = refl
