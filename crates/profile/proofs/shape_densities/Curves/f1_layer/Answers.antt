-- The same operations at each lane, in the same order.
use mathlib.Core.Path.{◌≡◌}
use Rattle.std.proofs.Common.{rules}
use lib.ListN.{length}
use mathlib.Core.Bool.{cond}
use lib.Ieee.{Float}
use Rattle.scalar.specs.F32.{◌-f◌, ◌*f◌, ◌<f◌, ◌≤f◌}
use Rattle.scalar.specs.Literals.{f0}
use Rattle.profile.specs.Density.{parabola_of, fn1_of}
use Rattle.profile.proofs.shape_densities.Lanes.{Made, own, splat, made, op, test, both, select}
use Rattle.profile.proofs.shape_densities.Curves.f1_layer.Goals as goal
use Rattle.profile.proofs.shape_densities.Curves.f1_layer.Goals.{then-self, else-self}

pub returns : goal.returns
unfolding fn1_of
returns g c =
    let h = c.args.h in
    let s = c.args.self in
    let e : length h ≡ g.row.N = search rules in
    let v = splat h e in
    let within = both (test ◌<f◌ (v f0) (v s.fi1)) (both (test ◌≤f◌ (op ◌-f◌ (v s.hb1) (own h)) (v f0)) (test ◌≤f◌ (op ◌-f◌ (own h) (v s.ht1)) (v f0))) in
    let line = op ◌*f◌ (v s.s1) (op ◌-f◌ (own h) (v (s.hi1 -f s.yi1))) in
    let curve = made h (parabola_of s.fc1 s.hi1 s.yi1) c.parabola-curve.ensures in
    let f = λ (x : Float). cond s.lin (s.s1 *f (x -f (s.hi1 -f s.yi1))) (parabola_of s.fc1 s.hi1 s.yi1 x) in
    let shape : Made h f c.if-self.shape =
    elim c.if-self.branch [
      | then-self w ↦ rw (w.if-self.true, w.shape-is) line
      | else-self w ↦ rw (w.if-self.false, w.shape-is) curve
    ] in
    (select within shape (v f0)).is
