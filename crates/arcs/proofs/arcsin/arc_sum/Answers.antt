-- `arcs::arcsin::arc_sum` meets its contract.
use mathlib.Core.Path.{sym, ap, subst}
use Prim.Native.Nat.{ℕ, ◌+◌, ◌^◌, ◌≤◌}
use native.Mathlib.Omega.{arith}
use Rattle.arcs.proofs.Arcs.{sixth-small}
use Rattle.arcs.proofs.arcsin.arc_sum.Goals.{After-sixth}
use Rattle.arcs.proofs.arcsin.arc_sum.Goals as goal

small : (c : After-sixth) → c.sixth.result ≤ 2 ^ 38
small c = subst (λ (x : ℕ). x ≤ 2 ^ 38) (sym c.sixth.ensures) (sixth-small c.args.s c.requires.1)

pub overflow_add-result : goal.overflow_add-result
overflow_add-result c = let h = small (goal.at.overflow_add-result c).After-sixth in omega (arith, c.requires.1)

pub overflow_add-result-2 : goal.overflow_add-result-2
overflow_add-result-2 c = let h = small (goal.at.overflow_add-result-2 c).After-sixth in omega (arith, c.requires.0, c.requires.1)

pub returns : goal.returns
returns c = ap (λ (x : ℕ). c.args.a + (c.args.s + x)) c.sixth.ensures
