-- A count is at most 40, so that it fits a word.
use native.Mathlib.Omega.{arith}
use Rattle.port_ionogram.proofs.ionogram_words.Ranges.{angles-range}
use Rattle.port_ionogram.proofs.ionogram_words.sang_into.Goals as goal

pub count_into-requires : goal.count_into-requires
count_into-requires c = (c.if-out-lt1.false, rw c.sang-a.ensures (omega (arith, angles-range c.number-km.result c.number-least.result)))
