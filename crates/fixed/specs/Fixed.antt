-- Fixed-point numbers beside f32 bit patterns: the significand, the magnitude in a given unit, and the way back with rounding. Definitions only.
use Rattle.std.specs.Prelude.{ℕ, ◌+◌, ◌-◌, ◌*◌, ◌/◌, ◌%◌, ◌^◌, Bool, true, false}
use Rattle.std.specs.Int.Count.{count_leading_zeros}

-- the first where the test holds, else the second
abbrev pub pick : Bool → ℕ → ℕ → ℕ
pick true a b = a
pick false a b = b

-- a is the pattern of a normal float with no sign: its 24-bit significand
abbrev pub digits : ℕ → ℕ
digits a = 2 ^ 23 + a % 2 ^ 23

-- the float's size in units of 2 ^ (k - 150)
abbrev pub scaled_of : (a k : ℕ) → ℕ
scaled_of a k = digits a * 2 ^ (a / 2 ^ 23 - k)

-- s, which is not 0 and below 2 ^ 64, to 24 bits: the nearest, and at a tie the larger
abbrev pub mant : ℕ → ℕ
mant s = (s * 2 ^ count_leading_zeros 64 s / 2 ^ 39 + 1) / 2

-- the bit pattern of s * 2 ^ -56 so rounded: mant s * 2 ^ (133 - count_leading_zeros 64 s) units of 2 ^ -149. Where mant s is 2 ^ 24, the sum carries it into the exponent.
abbrev pub pattern : ℕ → ℕ
pattern s = (133 - count_leading_zeros 64 s) * 2 ^ 23 + mant s
