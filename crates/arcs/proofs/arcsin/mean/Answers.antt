-- `arcs::arcsin::mean` meets its contract: a mean is never below the root, and g and n / g are together below 2 ^ 33.
use mathlib.Core.Path.{subst}
use Prim.Native.Nat.{ℕ, ◌-◌, ◌/◌, ◌^◌, ◌<◌}
use native.Mathlib.Nat.{div-lt_iff_lt-mul, mul_comm}
use native.Mathlib.Omega.{arith}
use Rattle.scalar.proofs.MeanStep.{step-not-below}
use Rattle.arcs.proofs.arcsin.mean.Goals.{Start}
use Rattle.arcs.proofs.arcsin.mean.Goals as goal

quotient-lt : (c : Start) → c.args.n / c.args.g < 2 ^ 33 - c.args.g
quotient-lt c = (div-lt_iff_lt-mul c.requires.0).1 (subst (λ (x : ℕ). c.args.n < x) (mul_comm c.args.g (2 ^ 33 - c.args.g)) c.requires.2)

pub nonzero_div-result : goal.nonzero_div-result
nonzero_div-result c = c.requires.0

pub overflow_add-result : goal.overflow_add-result
overflow_add-result c = let q = quotient-lt (goal.at.overflow_add-result c).Start in omega arith

pub returns : goal.returns
returns c = let q = quotient-lt (goal.at.returns c).Start in (step-not-below c.args.n c.args.g c.requires.0, omega arith)
