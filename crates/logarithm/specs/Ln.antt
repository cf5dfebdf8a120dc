-- The natural logarithm of an f32 by whole numbers. x is 2 ^ e * m, with m from 1 to 2; m is c * (1 + s) / (1 - s), c the nearest eighth; and ln ((1 + s) / (1 - s)) is 2 (s + s³ / 3 + s⁵ / 5 + ..). Definitions only.
use Rattle.std.specs.Prelude.{ℕ, ◌+◌, ◌-◌, ◌*◌, ◌/◌, ◌%◌, ◌^◌, leb, ltb, eqb, get_or, Float}
use Rattle.std.specs.Int.Count.{count_leading_zeros}
use Rattle.std.specs.Float.{binary32}
use Rattle.std.specs.Float.Ieee.{of_bits, to_bits}
use Rattle.fixed.specs.Fixed.{pattern, pick}
use Rattle.exponential.specs.Tables.{ln2}
use Rattle.logarithm.specs.Tables.{eighths}

-- s² / 3 + s⁴ / 5, in units of 2 ^ -34, as s is
abbrev pub excess_of : ℕ → ℕ
excess_of s = let u = s * s / 2 ^ 34 in u / 3 + u * u / 2 ^ 34 / 5

-- ln ((d + n) / (d - n)) in units of 2 ^ -56: s = n / d with as many places as fit 64 bits, q in units of 2 ^ -l
abbrev pub quotient : (n d : ℕ) → ℕ
quotient n d = n * 2 ^ count_leading_zeros 64 n / d

abbrev pub lengthened : ℕ → ℕ → ℕ
lengthened q g = q + q * g / 2 ^ 34

unfoldable pub twice_of : (n d : ℕ) → ℕ
twice_of n d =
    let l = count_leading_zeros 64 n in
    let q = quotient n d in
    lengthened q (excess_of (q / 2 ^ (l - 34))) * 2 ^ 20 / 2 ^ (l - 37)

-- ---- ln (m / 2 ^ 23) in units of 2 ^ -56, m from 2 ^ 23 to 2 ^ 24: c is (8 + i) / 8, the eighth nearest to it
abbrev pub index : ℕ → ℕ
index m = (m - (2 ^ 23 - 2 ^ 19)) / 2 ^ 20

abbrev pub centre : ℕ → ℕ
centre m = (8 + index m) * 2 ^ 20

unfoldable pub rest_of : ℕ → ℕ
unfolding twice_of
rest_of m =
    let c = centre m in
    let y = get_or eighths (index m) 0 in
    pick (leb c m) (y + twice_of (m - c) (m + c)) (y - twice_of (c - m) (m + c))

-- ---- patterns: ln (m / 2 ^ 23 * 2 ^ e), and ln (m / 2 ^ 23 * 2 ^ -e), which is below 0
unfoldable pub above : ℕ → ℕ → ℕ
unfolding rest_of
above m e = pattern (e * ln2 + rest_of m)

unfoldable pub below : ℕ → ℕ → ℕ
unfolding rest_of
below m e = 2 ^ 31 + pattern (e * ln2 - rest_of m)

-- a finite x above 0 by its pattern: from 1 up (0 at 1), from 2 ^ -126 up, and a subnormal, whose leading zeros are shifted out
abbrev pub finite : ℕ → ℕ
finite b =
    pick (leb 0x3f80_0000 b)
    (pick (eqb b 0x3f80_0000) 0 (above (2 ^ 23 + b % 2 ^ 23) (b / 2 ^ 23 - 127)))
    (pick (leb (2 ^ 23) b) (below (2 ^ 23 + b % 2 ^ 23) (127 - b / 2 ^ 23)) (below (b * 2 ^ (count_leading_zeros 32 b - 8)) (118 + count_leading_zeros 32 b)))

-- minus infinity at 0, NaN below it and at NaN, infinity at infinity
unfoldable pub ln_bits : ℕ → ℕ
unfolding above below
ln_bits b = pick (eqb (b % 2 ^ 31) 0) 0xff80_0000 (pick (ltb 0x7f80_0000 b) 0x7fc0_0000 (pick (eqb b 0x7f80_0000) 0x7f80_0000 (finite b)))

unfoldable pub ln_of : Float → Float
unfolding ln_bits
ln_of x = of_bits binary32 (ln_bits (to_bits binary32 x))
