-- The five terms are those of the definition, and every sum fits since each term is far below the one before.
use mathlib.Core.Path.{refl}
use native.Mathlib.Omega.{arith}
use native.Mathlib.Nat.{lt_of_le_of_lt}
use lib.Dec.{lit<}
use Rattle.fixed.proofs.Product.{half-fits}
use Rattle.exponential.specs.Exp.{term, sum_to}
use Rattle.exponential.proofs.ExpRange.{term-1, term-2, term-3, term-4}
use Rattle.exponential.proofs.rise.Goals as goal

pub overflow_mul-t2 : goal.overflow_mul-t2
overflow_mul-t2 c = half-fits c.requires c.requires

pub overflow_mul-t3 : goal.overflow_mul-t3
unfolding term
overflow_mul-t3 c = half-fits (lt_of_le_of_lt (term-1 c.args.u c.requires) (lit< tt)) c.requires

pub overflow_mul-t4 : goal.overflow_mul-t4
unfolding term
overflow_mul-t4 c = half-fits (lt_of_le_of_lt (term-2 c.args.u c.requires) (lit< tt)) c.requires

pub overflow_mul-t5 : goal.overflow_mul-t5
unfolding term
overflow_mul-t5 c = half-fits (lt_of_le_of_lt (term-3 c.args.u c.requires) (lit< tt)) c.requires

pub overflow_add-result : goal.overflow_add-result
unfolding term
overflow_add-result c = omega (arith, term-1 c.args.u c.requires)

pub overflow_add-result-2 : goal.overflow_add-result-2
unfolding term
overflow_add-result-2 c = omega (arith, term-1 c.args.u c.requires, term-2 c.args.u c.requires)

pub overflow_add-result-3 : goal.overflow_add-result-3
unfolding term
overflow_add-result-3 c = omega (arith, term-1 c.args.u c.requires, term-2 c.args.u c.requires, term-3 c.args.u c.requires)

pub overflow_add-result-4 : goal.overflow_add-result-4
unfolding term
overflow_add-result-4 c = omega (arith, term-1 c.args.u c.requires, term-2 c.args.u c.requires, term-3 c.args.u c.requires, term-4 c.args.u c.requires)

pub returns : goal.returns
unfolding term sum_to
returns c = refl
