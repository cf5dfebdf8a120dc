-- Below 2 ^ -12 and from 2 ^ 26 on the definition's own cases; between them the packed angle, below half pi, with the sign of the pattern.
use mathlib.Core.Path.{sym, ap, ◌∙◌, subst}
use Prim.Native.Nat.{ℕ, ◌+◌, ◌*◌, ◌/◌, ◌%◌, ◌^◌, ◌<◌, ◌≤◌}
use Rattle.fixed.specs.Fixed.{pattern}
use Rattle.arcs.proofs.Signed.{sign_fits}
use Rattle.arcs.proofs.Reduce.{case}
use Rattle.arcs.proofs.AtanBits.{small-bits, mid-bits, big-bits, nan-bits, angle-big}
use Rattle.arcs.specs.Atan.{atan_mag}
use Rattle.arcs.proofs.arctan.atan_bits.Goals.{After-atan_mag}
use Rattle.arcs.proofs.arctan.atan_bits.Goals as goal

size : (a : ℕ) → 0x3980_0000 ≤ a → a < 0x4c80_0000 → (2 ^ 30 ≤ atan_mag a) × (atan_mag a < 2 ^ 64)
size a l h = let C = case a l h in subst (λ (x : ℕ). (2 ^ 30 ≤ x) × (x < 2 ^ 64)) (sym C.is) (angle-big C.n C.c C.A C.q C.red)

pub returns-then-a-lt964689920 : goal.returns-then-a-lt964689920
returns-then-a-lt964689920 c = sym (small-bits c.args.b c.if-a-lt964689920.true)

pub pack-requires : goal.pack-requires
pack-requires c = subst (λ (x : ℕ). (2 ^ 30 ≤ x) × (x < 2 ^ 64)) (sym c.atan_mag.ensures) (size (c.args.b % 2 ^ 31) c.if-a-lt964689920.false c.if-a-lt1283457024.true)

pub overflow_add-result : goal.overflow_add-result
overflow_add-result c =
    let r = pack-requires (goal.at.overflow_add-result c).After-atan_mag in
    sign_fits c.args.b c.atan_mag.result c.pack.result c.ranges.b.fits c.pack.ensures r.0 r.1

pub returns-then-a-lt1283457024 : goal.returns-then-a-lt1283457024
returns-then-a-lt1283457024 c =
    let b = c.args.b in
    ap (λ (x : ℕ). b / 2 ^ 31 * 2 ^ 31 + x) (c.pack.ensures ∙ ap pattern c.atan_mag.ensures) ∙ sym (mid-bits b c.if-a-lt964689920.false c.if-a-lt1283457024.true)

pub returns-then-a-le2139095040 : goal.returns-then-a-le2139095040
returns-then-a-le2139095040 c = sym (big-bits c.args.b c.if-a-lt1283457024.false c.if-a-le2139095040.true)

pub returns : goal.returns
returns c = sym (nan-bits c.args.b c.if-a-le2139095040.false)
