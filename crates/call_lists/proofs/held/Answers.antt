-- The state is owned, so each number of its arrays is one of the format.
use mathlib.Core.Path.{refl}
use Rattle.heights.proofs.Owned.{each-held}
use Rattle.call_lists.specs.Lists.{HeldNumbers}
use Rattle.call_lists.proofs.Lists.{numbers-walk}
use Rattle.call_lists.proofs.held.Goals as goal

pub returns : goal.returns
returns c =
    let s = c.args.s in
    let fields = c.well_formed.0.1.1 in
    let yi = fields.1.0 in
    let hi = fields.1.1.0 in
    let htr = fields.1.1.1.1.1.0 in
    let numbers : HeldNumbers s = record {
      yi-held = each-held s.yi yi.0 yi.1.1;
      hi-held = each-held s.hi hi.0 hi.1.1;
      htr-held = each-held s.htr htr.0 htr.1.1;
    } in
    (refl, numbers-walk s numbers)
