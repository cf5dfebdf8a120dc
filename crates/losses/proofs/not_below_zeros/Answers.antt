use mathlib.Core.Path.{◌≡◌, refl, ap, ◌∙◌}
use native.Mathlib.Numerals.{add-one}
use native.Mathlib.Omega.{arith}
use borrow.Author.Rules.{rules}
use lib.ListN.{length}
use Rattle.losses.specs.Alosfv.{not_below_zeros}
use Rattle.losses.proofs.not_below_zeros.Goals as goal

pub loop-a-init : goal.loop-a-init
unfolding not_below_zeros
loop-a-init c = refl

pub loop-a-preserved : goal.loop-a-preserved
unfolding not_below_zeros
loop-a-preserved c = rw (add-one _, ← c.loop-a.invariant, ← c.not_below_zero.ensures)

pub returns : goal.returns
returns c =
    let n : length c.args.l ≡ 30 = search rules in
    let e : c.loop-a.a-index ≡ 30 = omega arith in
    c.loop-a.invariant ∙ ap (not_below_zeros _) e
