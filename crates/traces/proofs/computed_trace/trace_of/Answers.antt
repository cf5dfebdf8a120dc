-- The three tests in turn; what is answered are the products that passed them.
use native.Mathlib.Omega.{arith}
use Rattle.std.proofs.lemmas.Bool.Decides.{nat_tests}
use Rattle.traces.specs.Computed.{trace_of}
use Rattle.traces.proofs.computed_trace.trace_of.Goals as goal

pub returns-in_err-khz : goal.returns-in_err-khz
unfolding trace_of
returns-in_err-khz c =
    let k = c.scaled.ensures in
    grind (arith, nat_tests)

pub returns-in_err-height : goal.returns-in_err-height
unfolding trace_of
returns-in_err-height c =
    let k = c.scaled.ensures in
    let h = c.scaled-2.ensures in
    grind (arith, nat_tests)

pub returns-then-not-rises : goal.returns-then-not-rises
unfolding trace_of
returns-then-not-rises c =
    let k = c.scaled.ensures in
    let h = c.scaled-2.ensures in
    grind (arith, nat_tests)

pub returns : goal.returns
unfolding trace_of
returns c =
    let k = c.scaled.ensures in
    let h = c.scaled-2.ensures in
    grind (arith, nat_tests)
