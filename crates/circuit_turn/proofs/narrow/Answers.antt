-- The circuit on the way back decides, and what is written fits.
use mathlib.Core.Path.{sym, ◌∙◌}
use mathlib.Core.List.{[]}
use native.Mathlib.Omega.{arith}
use Rattle.lines.proofs.Placing.{fits}
use Rattle.lines.proofs.Sizes.{refused}
use Rattle.records.specs.Record.{form64}
use Rattle.records.proofs.Lists.{fit64}
use Rattle.circuit_turn.specs.Turn.{narrowed}
use Rattle.circuit_turn.proofs.Files.{file-most}
use Rattle.circuit_turn.proofs.Outcomes.{narrow_good}
use Rattle.circuit_turn.proofs.narrow.Goals as goal

pub put_old-requires : goal.put_old-requires
put_old-requires c = (omega arith, narrow_good _ _ (sym c.old_circuit.ensures ∙ c.in-Ok.is))

pub returns-in-Ok : goal.returns-in-Ok
unfolding narrowed
returns-in-Ok c =
    let e = sym c.old_circuit.ensures ∙ c.in-Ok.is in
    let m = file-most form64 fit64 c.in-Ok.c (narrow_good _ _ e) [] in
    rw e (rw c.new-page.ensures at c.put_old.ensures ∙ fits _ _ (omega (arith, m)))

pub returns-in-Err : goal.returns-in-Err
unfolding narrowed
returns-in-Err c =
    rw (← c.old_circuit.ensures, c.in-Err.is) (rw c.new-page.ensures at c.put_refused.ensures ∙ fits _ _ (omega (arith, (refused c.in-Err.r).most)))
