-- The two tests say whether twice the rest is under or over d.
use Prim.Native.Nat.{◌^◌}
use native.Mathlib.Nat.{mod-lt}
use native.Mathlib.Omega.{arith}
use Rattle.figures.proofs.HalfToEven.{under, over, half, room}
use Rattle.figures.proofs.nearest.Goals as goal

pub overflow_sub-d : goal.overflow_sub-d
overflow_sub-d c = omega (arith, mod-lt c.args.n c.requires)

pub returns-then-rest-d : goal.returns-then-rest-d
returns-then-rest-d c = under c.args.n c.args.d c.if-rest-d.true

pub overflow_sub-d-2 : goal.overflow_sub-d-2
overflow_sub-d-2 c = omega (arith, mod-lt c.args.n c.requires)

pub overflow_add-result : goal.overflow_add-result
overflow_add-result c = omega (arith, room c.args.n c.args.d (2 ^ 63) c.requires (omega arith) (omega arith))

pub returns-then-d-rest : goal.returns-then-d-rest
returns-then-d-rest c = over c.args.n c.args.d c.if-d-rest.true

pub overflow_add-result-2 : goal.overflow_add-result-2
overflow_add-result-2 c = omega (arith, room c.args.n c.args.d (2 ^ 63) c.requires (omega arith) c.if-rest-d.false)

pub returns : goal.returns
returns c = half c.args.n c.args.d c.requires c.if-rest-d.false c.if-d-rest.false
