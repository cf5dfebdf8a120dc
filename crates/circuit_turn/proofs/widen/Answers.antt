-- The reader's answer decides, and what is written fits.
use mathlib.Core.Path.{sym, ◌∙◌}
use native.Mathlib.Omega.{arith}
use lib.ListN.{replicate}
use Rattle.lines.proofs.Placing.{fits}
use Rattle.lines.proofs.Sizes.{refused}
use Rattle.records.specs.Record.{form64}
use Rattle.records.proofs.Lists.{fit64}
use Rattle.circuit.specs.Wide.{form128}
use Rattle.circuit.proofs.wide_circuit.Fit128.{fit128}
use Rattle.circuit_turn.specs.Turn.{widened}
use Rattle.circuit_turn.proofs.Files.{good_read, file-most}
use Rattle.circuit_turn.proofs.widen.Goals as goal

pub put_wide-requires : goal.put_wide-requires
put_wide-requires c = (omega arith, good_read form64 fit64 _ _ (sym c.read.ensures ∙ c.in-Ok.is))

pub returns-in-Ok : goal.returns-in-Ok
unfolding widened
returns-in-Ok c =
    let e = sym c.read.ensures ∙ c.in-Ok.is in
    let m = file-most form128 fit128 c.in-Ok.c (good_read form64 fit64 _ _ e) (replicate 5 0) in
    rw e (rw c.new-page.ensures at c.put_wide.ensures ∙ fits _ _ (omega (arith, m)))

pub returns-in-Err : goal.returns-in-Err
unfolding widened
returns-in-Err c =
    rw (← c.read.ensures, c.in-Err.is) (rw c.new-page.ensures at c.put_refused.ensures ∙ fits _ _ (omega (arith, (refused c.in-Err.r).most)))
