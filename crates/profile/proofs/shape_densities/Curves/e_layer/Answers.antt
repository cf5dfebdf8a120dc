-- The same operations at each lane, in the same order.
use mathlib.Core.Path.{◌≡◌}
use Rattle.std.proofs.Common.{rules}
use lib.ListN.{length}
use Rattle.scalar.specs.F32.{◌-f◌, ◌≤f◌}
use Rattle.scalar.specs.Literals.{f0}
use Rattle.profile.specs.Density.{parabola_of, fne_of}
use Rattle.profile.proofs.shape_densities.Lanes.{own, splat, made, op, test, both, select}
use Rattle.profile.proofs.shape_densities.Curves.e_layer.Goals as goal

pub returns : goal.returns
unfolding fne_of
returns g c =
    let h = c.args.h in
    let s = c.args.self in
    let e : length h ≡ g.row.N = search rules in
    let v = splat h e in
    let within = both (test ◌≤f◌ (v f0) (op ◌-f◌ (own h) (v s.hex))) (test ◌≤f◌ (op ◌-f◌ (own h) (v s.hte)) (v f0)) in
    (select within (made h (parabola_of s.fce s.hi0 s.yi0) c.parabola-curve.ensures) (v f0)).is
