-- Below 2 ^ -12, at 1 and beyond it the definition's own cases; between them the packed angle, below half pi, with the sign of the pattern.
use mathlib.Core.Path.{sym, ap, ◌∙◌, subst}
use Prim.Native.Nat.{ℕ, ◌+◌, ◌*◌, ◌/◌, ◌%◌, ◌^◌, ◌<◌, ◌≤◌}
use Rattle.fixed.specs.Fixed.{pattern}
use Rattle.arcs.proofs.Signed.{sign_fits}
use Rattle.arcs.proofs.AsinBits.{mag-fits, small-bits, mid-bits, one-bits, outside-bits}
use Rattle.arcs.proofs.arcsin.asin_bits.Goals.{After-asin_mag}
use Rattle.arcs.proofs.arcsin.asin_bits.Goals as goal

pub returns-then-a-lt964689920 : goal.returns-then-a-lt964689920
returns-then-a-lt964689920 c = sym (small-bits c.args.b c.if-a-lt964689920.true)

pub pack-requires : goal.pack-requires
pack-requires c =
    subst (λ (x : ℕ). (2 ^ 30 ≤ x) × (x < 2 ^ 64)) (sym c.asin_mag.ensures)
    (mag-fits (c.args.b % 2 ^ 31) c.if-a-lt964689920.false c.if-a-lt1065353216.true)

pub overflow_add-result : goal.overflow_add-result
overflow_add-result c =
    let r = pack-requires (goal.at.overflow_add-result c).After-asin_mag in
    let s = c in
    sign_fits s.args.b c.asin_mag.result c.pack.result s.ranges.b.fits c.pack.ensures r.0 r.1

pub returns-then-a-lt1065353216 : goal.returns-then-a-lt1065353216
returns-then-a-lt1065353216 c =
    let b = c.args.b in
    ap (λ (x : ℕ). b / 2 ^ 31 * 2 ^ 31 + x) (c.pack.ensures ∙ ap pattern c.asin_mag.ensures) ∙ sym (mid-bits b c.if-a-lt964689920.false c.if-a-lt1065353216.true)

pub returns-then-a-le1065353216 : goal.returns-then-a-le1065353216
returns-then-a-le1065353216 c = sym (one-bits c.args.b c.if-a-lt1065353216.false c.if-a-le1065353216.true)

pub returns : goal.returns
returns c = sym (outside-bits c.args.b c.if-a-le1065353216.false)
