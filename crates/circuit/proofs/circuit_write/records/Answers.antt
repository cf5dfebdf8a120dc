-- The 48 of kind 3 are there unless all deciles are +0.
use mathlib.Core.Path.{sym, ◌∙◌}
use native.Mathlib.Omega.{arith}
use Rattle.records.specs.Record.{all_zero}
use borrow.Author.Tests.{not-true, not-false}
use Rattle.circuit.proofs.circuit_write.records.Goals as goal

pub returns-then-has_deciles : goal.returns-then-has_deciles
returns-then-has_deciles c =
    rw (not-true (all_zero c.args.c.now.deciles) (sym c.has_deciles.ensures ∙ c.if-has_deciles.true))

pub returns : goal.returns
returns c =
    rw (not-false (all_zero c.args.c.now.deciles) (sym c.has_deciles.ensures ∙ c.if-has_deciles.false)) (omega arith)
