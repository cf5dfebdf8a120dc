-- The sine and the cosine of an f32 by whole numbers: the angle folded onto 0 to π/2, and eight terms of the sine's series there. Definitions only.
use Rattle.std.specs.Prelude.{ℕ, ◌+◌, ◌-◌, ◌*◌, ◌/◌, ◌%◌, ◌^◌, leb, ltb, Float}
use Rattle.std.specs.Int.{abs_diff}
use Rattle.std.specs.Int.Count.{count_leading_zeros}
use Rattle.std.specs.Float.{binary32}
use Rattle.std.specs.Float.Ieee.{of_bits, to_bits}
use Rattle.series.specs.Series.{Wave, sine, cosine}
use Rattle.fixed.specs.Fixed.{pick, scaled_of, pattern}

-- the product of two fractions in units of 2 ^ -32, cut
abbrev pub times : ℕ → ℕ → ℕ
times u v = u * v / 2 ^ 32

-- the terms of sin x / x = 1 - x² / 3! + x⁴ / 5! - .. - x¹⁴ / 15! that are added, and those that are taken off, these without one factor (x / 2)².
-- w is (x / 2)⁴, and the number at (x / 2) ^ (2 k) is 4 ^ k / (2 k + 1)!, all in units of 2 ^ -32 and cut.
abbrev pub added : ℕ → ℕ
added w = 2 ^ 32 + times w (572662306 + times w (3029959 + times w 2825))

abbrev pub taken : ℕ → ℕ
taken w = 2863311530 + times w (54539267 + times w (110180 + times w 53))

-- (x / 2)² in units of 2 ^ -32, for x = r / 2 ^ 61 below 2
abbrev pub square_of : ℕ → ℕ
square_of r = times (r / 2 ^ 30) (r / 2 ^ 30)

-- sin x / x in units of 2 ^ -32
unfoldable pub ratio_of : ℕ → ℕ
ratio_of r = let y = square_of r in let w = times y y in added w - times y (taken w)

-- the bit pattern of sin x: the first 32 digits of r times that ratio, in units of 2 ^ -(61 + l)
unfoldable pub sine_at : ℕ → ℕ
unfolding ratio_of
sine_at r = let l = count_leading_zeros 64 r in pattern (r * 2 ^ l / 2 ^ 32 * ratio_of r) - (l + 5) * 2 ^ 23

-- π / 2, π and 3 π / 2 in units of 2 ^ -61, to the nearest
abbrev pub quarter_turn : ℕ
quarter_turn = 3622009729038561421

abbrev pub half_turn : ℕ
half_turn = 7244019458077122842

abbrev pub three_quarters : ℕ
three_quarters = 10866029187115684264

-- the angle onto which |x| = X / 2 ^ 61 is folded: sin x = sin (π - x) = - sin (x - π), and cos x = sin (π / 2 - x) = - sin (x - π / 2) = - sin (3 π / 2 - x)
abbrev pub sin_fold : ℕ → ℕ
sin_fold X = pick (leb X quarter_turn) X (abs_diff X half_turn)

abbrev pub cos_fold : ℕ → ℕ
cos_fold X = pick (leb X half_turn) (abs_diff X quarter_turn) (three_quarters - X)

-- the sign, t being 1 where x is negative: the sine's is turned from π on; the cosine does not look at x's, and is negative from π / 2 on
abbrev pub sin_sign : (t X : ℕ) → ℕ
sin_sign t X = pick (leb X half_turn) t (1 - t)

abbrev pub cos_sign : ℕ → ℕ
cos_sign X = pick (leb X quarter_turn) 0 1

abbrev pub wave_at : Wave → (t X : ℕ) → ℕ
wave_at sine t X = sin_sign t X * 2 ^ 31 + sine_at (sin_fold X)
wave_at cosine t X = cos_sign X * 2 ^ 31 + sine_at (cos_fold X)

-- |x| in units of 2 ^ -61; a is the pattern of |x|, from 2 ^ -12 to 4
abbrev pub mag_of : ℕ → ℕ
mag_of a = scaled_of a 115 * 2 ^ 26

-- below 2 ^ -12 the sine is x itself, and the cosine 1
abbrev pub at_small : Wave → ℕ → ℕ
at_small sine b = b
at_small cosine b = 0x3f80_0000

-- from the bit pattern of x to that of its sine or cosine; NaN outside -4 to 4 (0x4080_0000 is 4) and at NaN
unfoldable pub wave_bits : Wave → ℕ → ℕ
unfolding sine_at
wave_bits w b =
    let a = b % 2 ^ 31 in
    pick (ltb a 0x3980_0000) (at_small w b) (pick (leb a 0x4080_0000) (wave_at w (b / 2 ^ 31) (mag_of a)) 0x7fc0_0000)

unfoldable pub sin_of : Float → Float
unfolding wave_bits
sin_of x = of_bits binary32 (wave_bits sine (to_bits binary32 x))

unfoldable pub cos_of : Float → Float
unfolding wave_bits
cos_of x = of_bits binary32 (wave_bits cosine (to_bits binary32 x))
