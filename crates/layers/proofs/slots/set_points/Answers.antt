-- Read so far are the first k of the first n points.
use mathlib.Core.Path.{refl, ◌∙◌, ap}
use native.Mathlib.Nat.{le_antisymm}
use native.Mathlib.Numerals.{add-one}
use native.Mathlib.Omega.{arith}
use borrow.Author.Rules.{rules}
use Rattle.std.proofs.Common.{◌≡◌, ◌<◌, length}
use Rattle.std.proofs.lemmas.List.{get_or-take, length-take-le}
use Rattle.layers.specs.FromLayers.{points_set}
use Rattle.layers.proofs.slots.set_points.Goals as goal

pub loop-k-init : goal.loop-k-init
unfolding points_set
loop-k-init c = refl

pub loop-k-preserved : goal.loop-k-preserved
unfolding points_set
loop-k-preserved c =
    let five : length c.args.params ≡ 5 = search rules in
    let first = length-take-le c.args.n c.args.params (omega (arith, c.requires)) in
    let k<n : c.loop-k.k < c.args.n = rw first at c.loop-k-test.true in
    rw (add-one c.loop-k.k, ← c.loop-k.invariant, ← get_or-take c.args.n c.args.params c.loop-k.k _ k<n) c.set_point-t.ensures

pub returns : goal.returns
returns c =
    let five : length c.args.params ≡ 5 = search rules in
    let first = length-take-le c.args.n c.args.params (omega (arith, c.requires)) in
    let k≡n : c.loop-k.k ≡ c.args.n = le_antisymm c.loop-k.auto.k-end c.loop-k-test.false ∙ first in
    c.loop-k.invariant ∙ ap (points_set _ _) k≡n
