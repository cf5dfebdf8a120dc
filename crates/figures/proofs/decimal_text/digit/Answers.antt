-- The quotient's last digit.
use Prim.Native.Nat.{◌/◌}
use native.Mathlib.Omega.{arith}
use Rattle.figures.proofs.decimal_text.Digits.{some, glyph-digit}
use Rattle.figures.proofs.decimal_text.digit.Goals as goal

pub nonzero_div-q : goal.nonzero_div-q
nonzero_div-q c = omega (arith, some c.args.k, c.ten_power.ensures)

pub returns : goal.returns
returns c = rw (← c.ten_power.ensures) (glyph-digit (c.args.n / c.ten_power.result))
