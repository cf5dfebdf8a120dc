-- The arc tangent of an f32 by whole numbers: a table of angles with their tangents, and v - v³ / 3 for the tangent v of what is left. Definitions only.
use Rattle.std.specs.Prelude.{ℕ, ◌+◌, ◌-◌, ◌*◌, ◌/◌, ◌%◌, ◌^◌, leb, ltb, get_or, Float}
use Rattle.std.specs.Float.{binary32}
use Rattle.std.specs.Float.Ieee.{of_bits, to_bits}
use Rattle.fixed.specs.Fixed.{pattern, pick, digits, scaled_of}
use Rattle.arc_tables.specs.Tables.{angles, half_pi}

-- v³ / 3, for v = q * 2 ^ -56
abbrev pub cube_of : ℕ → ℕ
cube_of q = q * (q * q / 2 ^ 48) / 2 ^ 64 / 3

-- the angle A, and the small one whose tangent is q * 2 ^ -56
abbrev pub angle_of : (A q : ℕ) → ℕ
angle_of A q = A + (q - cube_of q)

-- The angle whose tangent is n / c. For n ≤ c: the table's i / 128 is below it, by d / (128 c) at least
abbrev pub gentle_of : (n c d : ℕ) → ℕ
gentle_of n c d =
    let i = (2 ^ 7 * n - d) / c in
    angle_of (get_or angles i 0) ((2 ^ 7 * n - i * c) * 2 ^ 56 / (2 ^ 7 * c + i * n))

-- for c ≤ n: 128 / j is below it, j being above 128 c / n by d / n at least; its angle is half pi less the table's
abbrev pub steep_of : (n c d : ℕ) → ℕ
steep_of n c d =
    let j = (2 ^ 7 * c + d) / n + 1 in
    angle_of (half_pi - get_or angles j 0) ((n * j - 2 ^ 7 * c) * 2 ^ 56 / (c * j + 2 ^ 7 * n))

-- In all that follows a is the pattern of |x|. x from 2 ^ -12 to 2 ^ -7: no table
abbrev pub low_angle : ℕ → ℕ
low_angle a = angle_of 0 (scaled_of a 94)

-- x from 2 ^ -7 to 1, in units of 2 ^ -30
abbrev pub mid_angle : ℕ → ℕ
mid_angle a = gentle_of (scaled_of a 120) (2 ^ 30) (2 ^ 20)

-- x from 1 to 2 ^ 26
abbrev pub high_angle : ℕ → ℕ
high_angle a = steep_of (4 * digits a) (2 ^ (152 - a / 2 ^ 23)) (2 ^ 16)

-- from the bit pattern of x to that of its arc tangent: below 2 ^ -12 x itself, from 2 ^ 26 on half pi, and a NaN as it is
unfoldable pub atan_mag : ℕ → ℕ
unfolding angles
atan_mag a = pick (ltb a 0x3c00_0000) (low_angle a) (pick (ltb a 0x3f80_0000) (mid_angle a) (high_angle a))

unfoldable pub atan_bits : ℕ → ℕ
unfolding atan_mag
atan_bits b =
    let a = b % 2 ^ 31 in
    let t = b / 2 ^ 31 * 2 ^ 31 in
    pick (ltb a 0x3980_0000) b (pick (ltb a 0x4c80_0000) (t + pattern (atan_mag a)) (pick (leb a 0x7f80_0000) (t + 0x3fc9_0fdb) b))

unfoldable pub atan_of : Float → Float
unfolding atan_bits
atan_of x = of_bits binary32 (atan_bits (to_bits binary32 x))
