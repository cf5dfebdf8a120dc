use mathlib.Core.Path.{◌≡◌, refl, ap, ◌∙◌}
use Prim.Native.Nat.{◌<◌}
use native.Mathlib.Numerals.{add-one}
use native.Mathlib.Omega.{arith}
use borrow.Author.Rules.{rules}
use lib.Ieee.{nan}
use lib.ListN.{length}
use Rattle.profile.specs.Density.{fnd_of}
use Rattle.cases.proofs.Tabulate.{mapped, mapped-more, mapped-all, untouched}
use Rattle.profile.proofs.shape_densities.Curves.tails.Goals as goal

pub loop-h-init : goal.loop-h-init
loop-h-init c = refl

pub loop-h-preserved : goal.loop-h-preserved
loop-h-preserved c =
    let a = c.args in
    let i = c.loop-h.h-index in
    let h : i < length a.htr = search rules in
    rw (c.tail_density.ensures, c.loop-h.invariant, untouched (fnd_of a.self) nan a.htr i, add-one i)
    (mapped-more (fnd_of a.self) nan a.htr a.htr i h)

pub returns : goal.returns
returns c =
    let a = c.args in
    let f = fnd_of a.self in
    let n : length a.htr ≡ 50 = search rules in
    let e : c.loop-h.h-index ≡ length a.htr = omega arith in
    c.loop-h.invariant ∙ ap (mapped f nan a.htr a.htr) e ∙ mapped-all f nan a.htr a.htr refl
