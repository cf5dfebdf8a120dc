-- The same operations at each lane, in the same order.
use mathlib.Core.Path.{◌≡◌}
use Rattle.std.proofs.Common.{rules}
use lib.ListN.{length}
use Rattle.scalar.specs.F32.{◌+f◌, ◌-f◌, ◌*f◌, ◌<f◌}
use Rattle.scalar.specs.Literals.{f0}
use Rattle.profile.specs.Density.{fnval_of}
use Rattle.profile.proofs.shape_densities.Lanes.{own, splat, op, test, both, select}
use Rattle.profile.proofs.shape_densities.Curves.valley_density.Goals as goal

pub returns : goal.returns
unfolding fnval_of
returns g c =
    let h = c.args.h in
    let s = c.args.self in
    let e : length h ≡ g.row.N = search rules in
    let v = splat h e in
    let under = op ◌-f◌ (own h) (v s.hup) in
    let within = both (test ◌<f◌ (v f0) (op ◌-f◌ (own h) (v s.hlow))) (test ◌<f◌ under (v f0)) in
    (select within (op ◌+f◌ (v s.fup) (op ◌*f◌ (v s.asp) under)) (v f0)).is
