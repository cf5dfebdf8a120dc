-- The same operations at each lane, in the same order.
use mathlib.Core.Path.{◌≡◌}
use Rattle.std.proofs.Common.{rules}
use lib.ListN.{length}
use Rattle.scalar.specs.F32.{◌-f◌, ◌*f◌, ◌/f◌}
use Rattle.scalar.specs.Literals.{f1}
use Rattle.profile.specs.Density.{parabola_of}
use Rattle.profile.proofs.shape_densities.Lanes.{own, splat, op}
use Rattle.profile.proofs.shape_densities.density.parabola.Goals as goal

pub returns : goal.returns
unfolding parabola_of
returns g c =
    let a = c.args in
    let e : length a.h ≡ g.row.N = search rules in
    let v = splat a.h e in
    let z = op ◌/f◌ (op ◌-f◌ (own a.h) (v a.hi)) (v a.yi) in
    (op ◌*f◌ (v a.fc) (op ◌-f◌ (v f1) (op ◌*f◌ z z))).is
