-- A power of ten is not 0.
use native.Mathlib.Omega.{arith}
use Rattle.figures.proofs.decimal_text.Digits.{some}
use Rattle.figures.proofs.decimal_text.put_placed.Goals as goal

pub nonzero_div-n : goal.nonzero_div-n
nonzero_div-n g c = omega (arith, some c.args.places, c.ten_power.ensures)
