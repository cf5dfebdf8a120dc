-- The two tests in the definition's order; the rest of the record is a part of it.
use Prim.Native.Nat.{◌+◌, ◌*◌}
use mathlib.Core.Path.{ap, ◌∙◌}
use borrow.Author.Tests.{eq-eqb, ne_eqb}
use Rattle.records.specs.Record.{fits, all_zero}
use Rattle.std.proofs.lemmas.List.{take_rest}
use Rattle.records.proofs.sound.Goals as goal

pub returns-then-half-kind : goal.returns-then-half-kind
unfolding fits
returns-then-half-kind c =
    let a = c.args in
    rw (← c.half.ensures, eq-eqb _ _ c.if-half-kind.true)
    (c.all_zero.ensures ∙ ap all_zero (take_rest a.r.now (4 + 4 * a.words)))

pub returns-else-half-kind : goal.returns-else-half-kind
unfolding fits
returns-else-half-kind c = rw (← c.half.ensures, ne_eqb _ _ c.if-half-kind.false)
