-- e ^ x of an f32 by whole numbers: x is a whole multiple of ln 2 and a rest, and e to the rest comes from a table and five terms of the series. Definitions only.
use Rattle.std.specs.Prelude.{ℕ, zero, suc, ◌+◌, ◌-◌, ◌*◌, ◌/◌, ◌%◌, ◌^◌, leb, ltb, get_or, Float}
use Rattle.std.specs.Float.{binary32}
use Rattle.std.specs.Float.Ieee.{of_bits, to_bits}
use Rattle.fixed.specs.Fixed.{pick, scaled_of}
use Rattle.exponential.specs.Tables.{ln2, sixteenths}

-- ---- t ^ (k + 1) / (k + 1)! for t = u / 2 ^ 36, in units of 2 ^ -36: each term from the one before, cut off; and the sum of the terms up to it
unfoldable pub term : (u : ℕ) → ℕ → ℕ
term u zero = u
term u (suc k) = term u k * u / (2 ^ 36 * (k + 2))

unfoldable pub sum_to : (u : ℕ) → ℕ → ℕ
sum_to u zero = u
sum_to u (suc k) = sum_to u k + term u (suc k)

-- e ^ t - 1 for t below 1/16: five terms
abbrev pub rise_of : ℕ → ℕ
rise_of u = sum_to u 4

-- ---- e ^ (R / 2 ^ 56) in units of 2 ^ -62, for R up to ln 2: F * (1 + p), with F from the table by R's sixteenths, and p from what is left of R
abbrev pub factor : ℕ → ℕ
factor R = get_or sixteenths (R / 2 ^ 52) 0

abbrev pub left : ℕ → ℕ
left R = R % 2 ^ 52 / 2 ^ 20

unfoldable pub power_of : ℕ → ℕ
power_of R = factor R + factor R / 2 ^ 32 * rise_of (left R) / 2 ^ 4

-- h to 24 bits: the nearest, and at a tie the larger
abbrev pub rounded_to24 : ℕ → ℕ
rounded_to24 h = (h / 2 ^ 38 + 1) / 2

-- ---- e ^ X and e ^ -X, X in units of 2 ^ -56: X is e * ln 2 + R, or (e + 1) * ln 2 - R
unfoldable pub grown : ℕ → ℕ
unfolding power_of
grown X = (126 + X / ln2) * 2 ^ 23 + rounded_to24 (power_of (X % ln2))

-- h / 2 ^ (e + 1): below 2 ^ -126 a whole number of units 2 ^ -149
abbrev pub lowered : (e h : ℕ) → ℕ
lowered e h = pick (leb e 125) ((125 - e) * 2 ^ 23 + rounded_to24 h) ((h / 2 ^ (e - 87) + 1) / 2)

unfoldable pub shrunk : ℕ → ℕ
unfolding power_of
shrunk X = lowered (X / ln2) (power_of (ln2 - X % ln2))

-- ---- from the pattern b of x to that of e ^ x. a is the pattern with no sign
-- an infinity from 2 ^ 128 up, where x is 88.72283935546875; and 0 from x = -104 down
abbrev pub exp_of_positive : ℕ → ℕ
exp_of_positive a = pick (leb 0x42b1_7218 a) 0x7f80_0000 (grown (scaled_of a 94))

abbrev pub exp_of_negative : ℕ → ℕ
exp_of_negative a = pick (leb 0x42d0_0000 a) 0 (shrunk (scaled_of a 94))

-- 1 below 2 ^ -25
abbrev pub sized : (t a : ℕ) → ℕ
sized t a = pick (ltb a 0x3300_0000) 0x3f80_0000 (pick (ltb t 1) (exp_of_positive a) (exp_of_negative a))

-- NaN for NaN
unfoldable pub exp_bits : ℕ → ℕ
unfolding grown shrunk
exp_bits b = pick (ltb 0x7f80_0000 (b % 2 ^ 31)) 0x7fc0_0000 (sized (b / 2 ^ 31) (b % 2 ^ 31))

unfoldable pub exp_of : Float → Float
unfolding exp_bits
exp_of x = of_bits binary32 (exp_bits (to_bits binary32 x))
