-- The rounded quotient has 24 digits, or is 2 ^ 24.
use mathlib.Core.Path.{◌≡◌, sym, ap, ◌∙◌}
use Prim.Native.Nat.{◌+◌, ◌*◌, ◌^◌, ◌≤◌}
use native.Mathlib.Omega.{arith}
use lib.Ieee.Nearest.{closest}
use Rattle.composing.proofs.decimals.Rounded.{closest-is, closest-most}
use Rattle.composing.proofs.decimals.fraction.packed.Goals.{After-nearest}
use Rattle.composing.proofs.decimals.fraction.packed.Goals as goal

is : (c : After-nearest) → c.nearest.result ≡ closest c.args.a c.args.c
is c = c.nearest.ensures ∙ sym (closest-is c.args.a c.args.c)

most : (c : After-nearest) → c.nearest.result ≤ 2 ^ 24
most c = let a = c in omega (arith, is c, closest-most a.args.a a.args.c a.requires.1 a.requires.3)

pub overflow_cast-result : goal.overflow_cast-result
overflow_cast-result c = omega (arith, most (goal.at.overflow_cast-result c).After-nearest)

pub overflow_add-result : goal.overflow_add-result
overflow_add-result c = omega (arith, most (goal.at.overflow_add-result c).After-nearest)

pub returns : goal.returns
returns c = ap (λ x. c.args.field * 2 ^ 23 + x) (is (goal.at.returns c).After-nearest)
