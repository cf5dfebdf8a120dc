-- The tests decide; where all are passed the lines are written.
use mathlib.Core.Path.{◌≡◌, sym, ◌∙◌}
use mathlib.Core.Bool.{true}
use Rattle.traces.specs.Compared.{ready}
use Rattle.traces.proofs.Answers.{Facts, ready-facts, refused, answered}
use Rattle.traces.proofs.compare.Goals.{Else-not-ready}
use Rattle.traces.proofs.compare.Goals as goal

passed : (c : Else-not-ready)
    → let g = c.args in
    ready g.a.now g.ah.now g.b.now g.bh.now g.khz.now g.which.now g.difference.now ≡ true
passed c = sym c.ready.ensures ∙ c.if-not-ready.false

facts : (c : Else-not-ready)
    → let g = c.args in
    Facts g.a.now g.ah.now g.b.now g.bh.now g.khz.now g.which.now g.difference.now
facts c =
    let g = c.args in
    ready-facts g.a.now g.ah.now g.b.now g.bh.now g.khz.now g.which.now g.difference.now (passed c)

pub returns-then-not-ready : goal.returns-then-not-ready
returns-then-not-ready c =
    let g = c.args in
    let r = refused g.a.now g.ah.now g.b.now g.bh.now g.khz.now g.which.now g.difference.now
    (sym c.ready.ensures ∙ c.if-not-ready.true) in
    record { value = r.0; khz_after = r.1.0; which_after = r.1.1.0; difference_after = r.1.1.1 }

pub lines-requires : goal.lines-requires
lines-requires c =
    let f = facts (goal.at.lines-requires c).Else-not-ready in
    (f.first, f.second, f.first-few, f.second-few, f.khz-room, f.which-room, f.difference-room)

pub returns : goal.returns
returns c =
    let g = c.args in
    let e = c.lines.ensures in
    let r = answered g.a.now g.ah.now g.b.now g.bh.now g.khz.now g.which.now g.difference.now _ _ _ _ (passed (goal.at.returns c).Else-not-ready)
    e.value e.khz_after e.which_after e.difference_after in
    record { value = r.0; khz_after = r.1.0; which_after = r.1.1.0; difference_after = r.1.1.1 }
