-- The smaller of the two kHz is the next; where one trace is at its end, the other's.
use mathlib.Core.Path.{sym, ◌∙◌}
use native.Mathlib.Omega.{arith}
use mir.Facts.{to_z-of_z}
use borrow.Author.Rules.{sfits_of}
use Rattle.std.specs.declared.cmp.Ordering.{Ordering}
use Rattle.std.proofs.lemmas.Bool.Decides.{nat_tests}
use Rattle.std.proofs.lemmas.Cmp.{ranked}
use Rattle.traces.proofs.trace_lines.Steps.{head_first, head-second, head-both}
use Rattle.traces.proofs.trace_lines.next.Goals as goal

pub returns-then-is_empty : goal.returns-then-is_empty
returns-then-is_empty c =
    let g = c.args in
    head-second g.a.now g.ah.now g.b.now g.bh.now c.requires.0 c.requires.1 (grind (arith, nat_tests))
    (λ m. grind (arith, nat_tests))

pub returns-then-is_empty-2 : goal.returns-then-is_empty-2
returns-then-is_empty-2 c =
    let g = c.args in
    head_first g.a.now g.ah.now g.b.now g.bh.now c.requires.0 c.requires.1 (grind (arith, nat_tests))
    (λ m. grind (arith, nat_tests))

pub returns-in-Less : goal.returns-in-Less
returns-in-Less c =
    let g = c.args in
    head_first g.a.now g.ah.now g.b.now g.bh.now c.requires.0 c.requires.1 (grind (arith, nat_tests))
    (λ m. ranked _ _ Ordering.Less (sym c.in-Less.is ∙ c.cmp.ensures))

pub returns-in-Greater : goal.returns-in-Greater
returns-in-Greater c =
    let g = c.args in
    head-second g.a.now g.ah.now g.b.now g.bh.now c.requires.0 c.requires.1 (grind (arith, nat_tests))
    (λ m. ranked _ _ Ordering.Greater (sym c.in-Greater.is ∙ c.cmp.ensures))

pub returns-in-Equal : goal.returns-in-Equal
returns-in-Equal c =
    let g = c.args in
    rw (to_z-of_z (sfits_of c.less.type_inv), c.less.ensures)
    (head-both g.a.now g.ah.now g.b.now g.bh.now c.requires.0 c.requires.1 (grind (arith, nat_tests)) (grind (arith, nat_tests))
    (ranked _ _ Ordering.Equal (sym c.in-Equal.is ∙ c.cmp.ensures)))
