-- `arcs::arcsin::sixth` meets its contract: t is below 2 ^ 26, so its square and its cube fit.
use Prim.Native.Nat.{◌/◌, ◌^◌, ◌≤◌}
use native.Mathlib.Omega.{arith}
use Rattle.arcs.proofs.Arcs.{sixth-fits}
use Rattle.arcs.proofs.arcsin.sixth.Goals.{Start}
use Rattle.arcs.proofs.arcsin.sixth.Goals as goal

t-le : (c : Start) → c.args.s / 2 ^ 24 ≤ 2 ^ 26
t-le c = omega (arith, c.requires)

pub overflow_mul-result : goal.overflow_mul-result
overflow_mul-result c = let f = (sixth-fits (c.args.s / 2 ^ 24) (t-le (goal.at.overflow_mul-result c).Start)).0 in omega arith

pub overflow_mul-result-2 : goal.overflow_mul-result-2
overflow_mul-result-2 c = let f = (sixth-fits (c.args.s / 2 ^ 24) (t-le (goal.at.overflow_mul-result-2 c).Start)).1 in omega arith
