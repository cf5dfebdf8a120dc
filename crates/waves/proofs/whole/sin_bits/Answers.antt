-- Below 2 ^ -12 and beyond 4 the definition's first two cases; between them the sine at the folded angle, with the sign that the fold gives.
use mathlib.Core.Path.{sym, ap, ap₂, ◌∙◌, subst}
use Prim.Native.Nat.{ℕ, ◌+◌, ◌*◌, ◌/◌, ◌%◌, ◌^◌, ◌<◌, ◌≤◌}
use native.Mathlib.Nat.{le_trans, le_of_eq}
use native.Mathlib.Omega.{arith}
use Rattle.series.specs.Series.{sine}
use Rattle.waves.specs.SinCos.{sine_at, wave_at}
use Rattle.waves.proofs.Patterns.{small-bits, large-bits, outside-bits, sin-angle, sin-sign-le}
use Rattle.waves.proofs.Magnitude.{Turnable, turnable}
use Rattle.waves.proofs.whole.sin_bits.Goals.{After-magnitude-x, After-sin_sign}
use Rattle.waves.proofs.whole.sin_bits.Goals as goal

at : (c : After-magnitude-x) → Turnable c.magnitude-x.result
at c = subst Turnable (sym c.magnitude-x.ensures) (turnable (c.args.b % 2 ^ 31) c.if-a-gt1082130432.false)

sign_le : (c : After-sin_sign) → c.sin_sign.result ≤ 1
sign_le c = le_trans (le_of_eq c.sin_sign.ensures) (sin-sign-le c.magnitude-x.result (c.args.b / 2 ^ 31) (omega (arith, c.ranges.b.fits)))

pub returns-then-a-lt964689920 : goal.returns-then-a-lt964689920
returns-then-a-lt964689920 c = sym (small-bits sine c.args.b c.if-a-lt964689920.true)

pub returns-then-a-gt1082130432 : goal.returns-then-a-gt1082130432
returns-then-a-gt1082130432 c = sym (outside-bits sine c.args.b c.if-a-gt1082130432.true)

pub magnitude-x-requires : goal.magnitude-x-requires
magnitude-x-requires c = (c.if-a-lt964689920.false, c.if-a-gt1082130432.false)

pub sin_sign-requires : goal.sin_sign-requires
sin_sign-requires c = omega (arith, c.ranges.b.fits)

pub sine_at-requires : goal.sine_at-requires
sine_at-requires c =
    let t = at (goal.at.sine_at-requires c).After-magnitude-x in
    (sign_le (goal.at.sine_at-requires c).After-sin_sign, subst (λ (r : ℕ). (0 < r) × (r < 2 ^ 62)) (sym c.sin_fold.ensures) (sin-angle c.magnitude-x.result t.0 t.1.1 t.1.0))

pub returns : goal.returns
returns c =
    let b = c.args.b in
    c.sine_at.ensures
    ∙ ap₂ (λ (s r : ℕ). s * 2 ^ 31 + sine_at r) c.sin_sign.ensures c.sin_fold.ensures
    ∙ ap (λ (x : ℕ). wave_at sine (b / 2 ^ 31) x) c.magnitude-x.ensures
    ∙ sym (large-bits sine b c.if-a-lt964689920.false c.if-a-gt1082130432.false)
