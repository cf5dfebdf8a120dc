-- The same operations at each lane, in the same order.
use mathlib.Core.Path.{◌≡◌}
use Rattle.std.proofs.Common.{rules}
use lib.ListN.{length}
use Rattle.scalar.specs.F32.{◌-f◌, ◌≤f◌}
use Rattle.scalar.specs.Literals.{f0}
use Rattle.profile.specs.Density.{parabola_of, fn2_of}
use Rattle.profile.proofs.shape_densities.Lanes.{own, splat, made, op, test, select}
use Rattle.profile.proofs.shape_densities.Curves.f2_layer.Goals as goal

pub returns : goal.returns
unfolding fn2_of
returns g c =
    let h = c.args.h in
    let s = c.args.self in
    let e : length h ≡ g.row.N = search rules in
    let v = splat h e in
    let within = test ◌≤f◌ (op ◌-f◌ (v s.hb2v) (own h)) (v f0) in
    (select within (made h (parabola_of s.fc2 s.hi2 s.yi2) c.parabola-curve.ensures) (v f0)).is
