-- The square of s has at most 58 digits.
use Prim.Native.Nat.{ℕ, ◌*◌, ◌/◌, ◌^◌, ◌≤◌}
use native.Mathlib.Omega.{arith}
use native.Mathlib.Nat.{mul-le-mul}
use Rattle.logarithm.proofs.LnRange.{excess-le}
use Rattle.logarithm.proofs.excess.Goals as goal

square : (s : ℕ) → s ≤ 2 ^ 29 → s * s ≤ 2 ^ 58
square s h = mul-le-mul h h

small : (x : ℕ) → x ≤ 2 ^ 58 → x / 2 ^ 34 * (x / 2 ^ 34) ≤ 2 ^ 48
small x h = let a : x / 2 ^ 34 ≤ 2 ^ 24 = omega arith in mul-le-mul a a

pub overflow_mul-u : goal.overflow_mul-u
overflow_mul-u c = omega (arith, square c.args.s c.requires)

pub overflow_mul-result : goal.overflow_mul-result
overflow_mul-result c = omega (arith, small (c.args.s * c.args.s) (square c.args.s c.requires))

pub overflow_add-result : goal.overflow_add-result
overflow_add-result c = omega (arith, excess-le c.args.s c.requires)
