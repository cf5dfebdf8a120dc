-- The sum is at least 2 ^ 30 units and fits.
use mathlib.Core.Path.{◌≡◌, sym, ap, ◌∙◌, subst}
use Prim.Native.Nat.{ℕ, ◌+◌, ◌*◌, ◌^◌, ◌<◌, ◌≤◌}
use native.Mathlib.Omega.{arith}
use Rattle.fixed.specs.Fixed.{pattern}
use Rattle.exponential.specs.Tables.{ln2}
use Rattle.logarithm.specs.Ln.{rest_of, above}
use Rattle.logarithm.proofs.LnRange.{sum-big, rest_le}
use Rattle.logarithm.proofs.above_bits.Goals as goal

module _ (m e y : ℕ) (low : 2 ^ 23 ≤ m) (high : m < 2 ^ 24) (is : y ≡ rest_of m) where
  most : y + 2 ^ 30 ≤ ln2
  most = subst (λ (x : ℕ). x + 2 ^ 30 ≤ ln2) (sym is) (rest_le m low high)

  least : 2 ^ 23 < m + e → 2 ^ 30 ≤ e * ln2 + y
  least k = subst (λ (x : ℕ). 2 ^ 30 ≤ e * ln2 + x) (sym is) (sum-big m low high e k)

pub overflow_add-e : goal.overflow_add-e
overflow_add-e c = omega (arith, most c.args.m c.args.e c.rest-y.result c.requires.0 c.requires.1 c.rest-y.ensures)

pub pack-requires : goal.pack-requires
pack-requires c = (least c.args.m c.args.e c.rest-y.result c.requires.0 c.requires.1 c.rest-y.ensures c.requires.3, omega (arith, most c.args.m c.args.e c.rest-y.result c.requires.0 c.requires.1 c.rest-y.ensures))

pub returns : goal.returns
unfolding above
returns c = c.pack.ensures ∙ ap (λ (x : ℕ). pattern (c.args.e * ln2 + x)) c.rest-y.ensures
