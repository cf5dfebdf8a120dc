-- `arcs::arctan::angle_sum` meets its contract.
use mathlib.Core.Path.{◌≡◌, ap}
use Prim.Native.Nat.{ℕ, ◌+◌, ◌-◌, ◌*◌, ◌≤◌}
use native.Mathlib.Omega.{arith}
use native.Mathlib.Nat.{le_of_lt}
use Rattle.arcs.proofs.Angle.{cube-small}
use Rattle.arcs.specs.Atan.{cube_of}
use Rattle.arcs.proofs.arctan.angle_sum.Goals as goal

less : (r j q : ℕ) → r ≡ j → 4 * j ≤ q → r ≤ q
less r j q e h = omega arith

pub overflow_sub-result : goal.overflow_sub-result
overflow_sub-result c = less c.cube.result (cube_of c.args.q) c.args.q c.cube.ensures (cube-small c.args.q (le_of_lt c.requires.1))

pub overflow_add-result : goal.overflow_add-result
overflow_add-result c = omega (arith, c.requires.0, c.requires.1)

pub returns : goal.returns
returns c = ap (λ (x : ℕ). c.args.a + (c.args.q - x)) c.cube.ensures
