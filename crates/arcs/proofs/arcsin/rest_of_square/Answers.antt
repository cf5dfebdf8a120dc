-- `arcs::arcsin::rest_of_square` meets its contract: the square of n is below 2 ^ 64.
use mathlib.Core.Path.{refl}
use Prim.Native.Nat.{ℕ, ◌-◌, ◌*◌, ◌^◌, ◌<◌, ◌≤◌}
use native.Mathlib.Nat.{mul-le-mul}
use native.Mathlib.Omega.{arith}
use Rattle.arcs.proofs.arcsin.rest_of_square.Goals as goal

square : (n : ℕ) → n < 2 ^ 32 → n * n ≤ (2 ^ 32 - 1) * (2 ^ 32 - 1)
square n h = let l : n ≤ 2 ^ 32 - 1 = omega arith in mul-le-mul l l

pub overflow_mul-result : goal.overflow_mul-result
overflow_mul-result c = let q = square c.args.n c.requires in omega arith

pub overflow_sub-result : goal.overflow_sub-result
overflow_sub-result c = let q = square c.args.n c.requires in omega arith

pub returns : goal.returns
returns c = let q = square c.args.n c.requires in (refl, omega arith)
