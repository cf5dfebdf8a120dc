-- Below 2 ^ -12 and beyond 4 the definition's first two cases; between them the cosine at the folded angle, with the sign that the fold gives.
use mathlib.Core.Path.{sym, ap, ap₂, ◌∙◌, subst}
use Prim.Native.Nat.{ℕ, ◌+◌, ◌*◌, ◌/◌, ◌%◌, ◌^◌, ◌<◌, ◌≤◌}
use native.Mathlib.Nat.{le_trans, le_of_eq}
use Rattle.series.specs.Series.{cosine}
use Rattle.waves.specs.SinCos.{sine_at, wave_at}
use Rattle.waves.proofs.Patterns.{small-bits, large-bits, outside-bits, cos-angle, cos-sign-le}
use Rattle.waves.proofs.Magnitude.{Turnable, turnable}
use Rattle.waves.proofs.whole.cos_bits.Goals.{After-cos_sign, After-magnitude-x}
use Rattle.waves.proofs.whole.cos_bits.Goals as goal

at : (c : After-magnitude-x) → Turnable c.magnitude-x.result
at c = subst Turnable (sym c.magnitude-x.ensures) (turnable (c.args.b % 2 ^ 31) c.if-a-gt1082130432.false)

sign_le : (c : After-cos_sign) → c.cos_sign.result ≤ 1
sign_le c = le_trans (le_of_eq c.cos_sign.ensures) (cos-sign-le c.magnitude-x.result)

pub returns-then-a-lt964689920 : goal.returns-then-a-lt964689920
returns-then-a-lt964689920 c = sym (small-bits cosine c.args.b c.if-a-lt964689920.true)

pub returns-then-a-gt1082130432 : goal.returns-then-a-gt1082130432
returns-then-a-gt1082130432 c = sym (outside-bits cosine c.args.b c.if-a-gt1082130432.true)

pub magnitude-x-requires : goal.magnitude-x-requires
magnitude-x-requires c = (c.if-a-lt964689920.false, c.if-a-gt1082130432.false)

pub cos_fold-requires : goal.cos_fold-requires
cos_fold-requires c = (at (goal.at.cos_fold-requires c).After-magnitude-x).1.0

pub sine_at-requires : goal.sine_at-requires
sine_at-requires c =
    let t = at (goal.at.sine_at-requires c).After-magnitude-x in
    (sign_le (goal.at.sine_at-requires c).After-cos_sign, subst (λ (r : ℕ). (0 < r) × (r < 2 ^ 62)) (sym c.cos_fold.ensures) (cos-angle c.magnitude-x.result t.1.1 t.1.0))

pub returns : goal.returns
returns c =
    let b = c.args.b in
    c.sine_at.ensures
    ∙ ap₂ (λ (s r : ℕ). s * 2 ^ 31 + sine_at r) c.cos_sign.ensures c.cos_fold.ensures
    ∙ ap (λ (x : ℕ). wave_at cosine (b / 2 ^ 31) x) c.magnitude-x.ensures
    ∙ sym (large-bits cosine b c.if-a-lt964689920.false c.if-a-gt1082130432.false)
