-- Curves and heights are those that `drawn` answers of the slot as it came.
use mathlib.Core.Path.{ap}
use Rattle.profile.proofs.WhereDrawn.{none_drawn, some_drawn}
use Rattle.profile.specs.declared.slot_curves.Drawn.{Drawn}
use Rattle.profile.specs.Marks.{marks_of}
use Rattle.profile.proofs.shapes.marks_slot.Goals as goal

pub returns-in_default : goal.returns-in_default
unfolding marks_of
returns-in_default c = rw (none_drawn c.args.s c.args.k c.in_default.ensures) c.no_marks.ensures

pub returns : goal.returns
unfolding marks_of
returns c =
    let n = some_drawn c.args.s c.args.k c.in-Some.d c.in-Some.ensures in
    rw (
      n.0,
      ← ap (λ (x : Drawn). x.curves) n.1,
      ← ap (λ (x : Drawn). x.htr) n.1,
    )
    c.marks_on.ensures
