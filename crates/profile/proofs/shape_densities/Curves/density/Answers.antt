-- Four maxima of the five, in the Rust's order.
use Rattle.scalar.specs.Scalar.{max_of}
use Rattle.profile.specs.Density.{fnval_of, fne_of, fnd_of, fn1_of, fn2_of, candidates_of, largest_of, density_of}
use Rattle.profile.proofs.shape_densities.Lanes.{made, op}
use Rattle.profile.proofs.shape_densities.Curves.density.Goals as goal

pub returns : goal.returns
unfolding density_of candidates_of largest_of
returns g c =
    let h = c.args.h in
    let s = c.args.self in
    let fnd = made h (fnd_of s) c.requires in
    let fne = made h (fne_of s) c.e_layer.ensures in
    let fnval = made h (fnval_of s) c.valley_density.ensures in
    let fn1 = made h (fn1_of s) c.f1_layer.ensures in
    let fn2 = made h (fn2_of s) c.f2_layer.ensures in
    rw (c.largest.ensures) (op max_of (op max_of (op max_of (op max_of fnd fne) fnval) fn1) fn2).is
