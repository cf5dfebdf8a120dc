-- `arcs::arctan::low_angle` meets its contract.
use mathlib.Core.Path.{sym, ap, ◌∙◌, subst}
use Prim.Native.Nat.{ℕ, ◌-◌, ◌/◌, ◌^◌, ◌<◌}
use native.Mathlib.Omega.{arith}
use native.Mathlib.Nat.{lt_of_le_of_lt}
use lib.Dec.{lit<}
use Rattle.fixed.proofs.Sizes.{dig-low, dig-high}
use Rattle.arcs.proofs.Reduce.{within}
use Rattle.arcs.specs.Atan.{angle_of}
use Rattle.fixed.specs.Fixed.{digits}
use Rattle.arcs.proofs.arctan.low_angle.Goals as goal

pub angle_sum-requires : goal.angle_sum-requires
angle_sum-requires c =
    let a = c.args.a in
    (omega arith, subst (λ (x : ℕ). x < 2 ^ 50) (sym c.scaled.ensures) (lt_of_le_of_lt (within (digits a) (a / 2 ^ 23 - 94) 21 25 (dig-low a) (dig-high a) (omega (arith, c.requires.0)) (omega (arith, c.requires.1))).1 (lit< tt)))

pub returns : goal.returns
returns c = c.angle_sum.ensures ∙ ap (λ (x : ℕ). angle_of 0 x) c.scaled.ensures
