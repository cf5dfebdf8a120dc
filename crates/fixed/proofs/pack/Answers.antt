-- `fixed::pack` meets its contract: few leading zeros, and a significand of at most 2 ^ 24.
use Prim.Native.Nat.{◌^◌, ◌≤◌}
use native.Mathlib.Omega.{arith}
use Rattle.fixed.specs.Fixed.{mant}
use Rattle.fixed.proofs.Round.{rounded}
use Rattle.fixed.proofs.pack.Goals as goal

pub overflow_sub-result : goal.overflow_sub-result
overflow_sub-result c = omega (arith, (rounded c.args.s c.requires.0 c.requires.1).few)

pub overflow_add-result : goal.overflow_add-result
overflow_add-result c =
    let most : mant c.args.s ≤ 2 ^ 24 = (rounded c.args.s c.requires.0 c.requires.1).most in
    omega (arith, most, c.significand.ensures)
