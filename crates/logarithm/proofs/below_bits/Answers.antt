-- The difference is at least 2 ^ 30 units.
use mathlib.Core.Path.{◌≡◌, sym, ap, ◌∙◌, subst}
use Prim.Native.Nat.{ℕ, ◌+◌, ◌-◌, ◌*◌, ◌^◌, ◌<◌, ◌≤◌}
use native.Mathlib.Omega.{arith}
use mir.Syntax.{w32}
use mir.Val.{Fits}
use Rattle.fixed.specs.Fixed.{pattern}
use Rattle.fixed.proofs.Round.{pattern_lt}
use Rattle.exponential.specs.Tables.{ln2}
use Rattle.logarithm.specs.Ln.{rest_of, below}
use Rattle.logarithm.proofs.LnRange.{rest_le}
use Rattle.logarithm.proofs.below_bits.Goals as goal

most : (m y : ℕ) → 2 ^ 23 ≤ m → m < 2 ^ 24 → y ≡ rest_of m → y + 2 ^ 30 ≤ ln2
most m y low high is = subst (λ (x : ℕ). x + 2 ^ 30 ≤ ln2) (sym is) (rest_le m low high)

small : (x p : ℕ) → x ≡ p → p < 255 * 2 ^ 23 → Fits w32 (0x8000_0000 + x)
small x p e h = omega arith

pub overflow_sub-e : goal.overflow_sub-e
overflow_sub-e c = let m = most c.args.m c.rest-y.result c.requires.0 c.requires.1 c.rest-y.ensures in omega arith

pub pack-requires : goal.pack-requires
pack-requires c = let m = most c.args.m c.rest-y.result c.requires.0 c.requires.1 c.rest-y.ensures in (omega arith, omega arith)

pub overflow_add-result : goal.overflow_add-result
overflow_add-result c =
    let m = most c.args.m c.rest-y.result c.requires.0 c.requires.1 c.rest-y.ensures in
    let y = c.args.e * ln2 - c.rest-y.result in
    small c.pack.result (pattern y) c.pack.ensures (pattern_lt y (omega arith) (omega arith))

pub returns : goal.returns
unfolding below
returns c = ap (λ (x : ℕ). 2 ^ 31 + x) (c.pack.ensures ∙ ap (λ (x : ℕ). pattern (c.args.e * ln2 - x)) c.rest-y.ensures)
