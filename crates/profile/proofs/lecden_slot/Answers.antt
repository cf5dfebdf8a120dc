-- Each step of the definition is what the call of the same name answers.
use mathlib.Core.Path.{ap}
use Rattle.profile.specs.Lecden.{lecden_of}
use Rattle.profile.specs.declared.slot_curves.Drawn.{Drawn}
use Rattle.profile.proofs.WhereDrawn.{none_drawn, some_drawn}
use Rattle.profile.proofs.lecden_slot.Goals as goal

pub returns-in_default : goal.returns-in_default
unfolding lecden_of
returns-in_default c = rw (none_drawn c.args.s c.args.k c.in_default.ensures)

pub returns : goal.returns
unfolding lecden_of
returns c =
    let n = some_drawn c.args.s c.args.k c.in-Some.d c.in-Some.ensures in
    let d = n.1 in
    rw (
      n.0,
      ← ap (λ (x : Drawn). x.curves) d,
      ← ap (λ (x : Drawn). x.htr) d,
      ← ap (λ (x : Drawn). x.slot) d,
      ← c.densities-fnsq.ensures,
      ← c.rises_throughout-rises.ensures,
      ← c.write_slot-r.ensures,
      ← c.with_owner.ensures,
    )
