-- The method's answer is the test of the definition.
use Prim.Native.Nat.{ℕ}
use mathlib.Core.Path.{◌∙◌}
use borrow.Author.Tests.{tests}
use lib.Dec.{eqb}
use Rattle.std.proofs.Common.{rules}
use Rattle.std.proofs.lemmas.Iterator.{YieldsList-from_slice}
use Rattle.std.proofs.lemmas.Iterator.Search.{all_from_yields_List}
use Rattle.records.proofs.Lists.{all-zero}
use Rattle.circuit.proofs.numbers.all_zero.Goals as goal

pub returns : goal.returns
returns c =
    all_from_yields_List (λ (n : ℕ). eqb n 0) _ _ _ c.all.ensures.ran (YieldsList-from_slice c.args.s.now cc) (λ x b q k. search (rules, tests))
    ∙ all-zero c.args.s.now
