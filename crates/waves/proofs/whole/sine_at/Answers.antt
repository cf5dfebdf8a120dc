-- `waves::whole::sine_at` meets its contract: digits and ratio make a product of 64 bits, and its pattern's exponent is larger than what is taken off it.
use mathlib.Core.Path.{◌≡◌, sym, ap, ap₂, ◌∙◌, subst}
use Prim.Native.Nat.{ℕ, ◌+◌, ◌-◌, ◌*◌, ◌/◌, ◌^◌, ◌<◌, ◌≤◌}
use native.Mathlib.Omega.{arith}
use lib.Count.{count_leading_zeros}
use Rattle.fixed.specs.Fixed.{pattern}
use Rattle.waves.specs.SinCos.{ratio_of, sine_at}
use Rattle.fixed.proofs.Round.{top_of}
use Rattle.waves.proofs.Patterns.{packed, sine-at-lt}
use Rattle.waves.proofs.whole.sine_at.Goals as goal

-- d are the digits, s the ratio
is : (r d s : ℕ) → d ≡ r * 2 ^ count_leading_zeros 64 r / 2 ^ 32 → s ≡ ratio_of r → d * s ≡ r * 2 ^ count_leading_zeros 64 r / 2 ^ 32 * ratio_of r
is r d s e f = ap₂ (λ (x y : ℕ). x * y) e f

pattern_is : (r d s p : ℕ) → d ≡ r * 2 ^ count_leading_zeros 64 r / 2 ^ 32 → s ≡ ratio_of r → p ≡ pattern (d * s) → p ≡ pattern (r * 2 ^ count_leading_zeros 64 r / 2 ^ 32 * ratio_of r)
pattern_is r d s p e f g = g ∙ ap (λ (x : ℕ). pattern x) (is r d s e f)

pub overflow_mul-digits : goal.overflow_mul-digits
overflow_mul-digits c =
    let h : c.digits.result * c.ratio.result < 2 ^ 64 = subst (λ (x : ℕ). x < 2 ^ 64) (sym (is c.args.r c.digits.result c.ratio.result c.digits.ensures c.ratio.ensures)) (packed c.args.r c.requires.1.0 c.requires.1.1).fits in
    record { fits = h }

pub pack-requires : goal.pack-requires
pack-requires c =
    let k = packed c.args.r c.requires.1.0 c.requires.1.1 in
    subst (λ (x : ℕ). (2 ^ 30 ≤ x) × (x < 2 ^ 64)) (sym (is c.args.r c.digits.result c.ratio.result c.digits.ensures c.ratio.ensures)) (k.big, k.fits)

pub overflow_add-size : goal.overflow_add-size
overflow_add-size c = omega (arith, (top_of c.args.r c.requires.1.0 c.ranges.r.fits).few)

pub overflow_mul-size : goal.overflow_mul-size
overflow_mul-size c = omega (arith, (top_of c.args.r c.requires.1.0 c.ranges.r.fits).few)

pub overflow_sub-size : goal.overflow_sub-size
overflow_sub-size c =
    subst (λ (x : ℕ). (count_leading_zeros 64 c.args.r + 5) * 2 ^ 23 ≤ x)
    (sym (pattern_is c.args.r c.digits.result c.ratio.result c.pack.result c.digits.ensures c.ratio.ensures c.pack.ensures))
    (packed c.args.r c.requires.1.0 c.requires.1.1).room

-- the pattern of a sine is below that of infinity, so that the sign's bit is free
is-size : (r d s p : ℕ) → d ≡ r * 2 ^ count_leading_zeros 64 r / 2 ^ 32 → s ≡ ratio_of r → p ≡ pattern (d * s) → p - (count_leading_zeros 64 r + 5) * 2 ^ 23 ≡ sine_at r
unfolding sine_at
is-size r d s p e f g = ap (λ (x : ℕ). x - (count_leading_zeros 64 r + 5) * 2 ^ 23) (pattern_is r d s p e f g)

pub overflow_mul-result : goal.overflow_mul-result
overflow_mul-result c = omega (arith, c.requires.0)

pub overflow_add-result : goal.overflow_add-result
overflow_add-result c =
    let r = c.args.r in
    let e = is-size r c.digits.result c.ratio.result c.pack.result c.digits.ensures c.ratio.ensures c.pack.ensures in
    let h = subst (λ (y : ℕ). y < 255 * 2 ^ 23) (sym e) (sine-at-lt r c.requires.1.0 c.requires.1.1) in
    omega (arith, h, c.requires.0)

pub returns : goal.returns
returns c = ap (λ (y : ℕ). c.args.sign * 2 ^ 31 + y) (is-size c.args.r c.digits.result c.ratio.result c.pack.result c.digits.ensures c.ratio.ensures c.pack.ensures)
