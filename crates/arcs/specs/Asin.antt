-- The arc sine of an f32 by whole numbers: a table of angles with their sines and cosines, and s + s³ / 6 for the sine s of what is left. Definitions only.
use Rattle.std.specs.Prelude.{ℕ, ◌+◌, ◌-◌, ◌*◌, ◌/◌, ◌%◌, ◌^◌, leb, ltb, get_or, Float}
use Rattle.std.specs.Float.{binary32}
use Rattle.std.specs.Float.Ieee.{of_bits, to_bits}
use Rattle.fixed.specs.Fixed.{pick, scaled_of, pattern}
use Rattle.arc_tables.specs.Tables.{cosine_of, cosine_at, arcs, half_pi}

-- Sines and cosines are in units of 2 ^ -32, angles in units of 2 ^ -56.
-- s³ / 6, for the sine s * 2 ^ -56
abbrev pub sixth_of : ℕ → ℕ
sixth_of s =
    let t = s / 2 ^ 24 in
    t * t / 2 ^ 20 * t / 2 ^ 20 / 6

-- the angle A, and the small one whose sine is s * 2 ^ -56
abbrev pub arc_of : (A s : ℕ) → ℕ
arc_of A s = A + (s + sixth_of s)

-- The angle with the sine n and the cosine c, by the sine of its difference from one of the table's. Up to 45 degrees: the table's sine i / 256 is below n, by 2 ^ -16 at least
abbrev pub gentle_arc : (n c : ℕ) → ℕ
gentle_arc n c =
    let i = (n - 2 ^ 16) / 2 ^ 24 in
    arc_of (get_or arcs i 0) ((cosine_at i * n - i * 2 ^ 24 * c) / 2 ^ 8)

-- above 45 degrees: the cosine j / 256 of the table's angle, taken from half pi, is above c by 2 ^ -16 at least
abbrev pub steep_arc : (n c : ℕ) → ℕ
steep_arc n c =
    let j = (c + 2 ^ 16) / 2 ^ 24 + 1 in
    arc_of (half_pi - get_or arcs j 0) ((j * 2 ^ 24 * n - cosine_at j * c) / 2 ^ 8)

-- x from 2 ^ -7 on and below 1; 3037000499 is the root of 1/2
unfoldable pub mid_arc : ℕ → ℕ
unfolding cosine_of cosine_at arcs
mid_arc n = pick (leb n 3037000499) (gentle_arc n (cosine_of n)) (steep_arc n (cosine_of n))

-- In all that follows a is the pattern of |x|. x from 2 ^ -12 to 2 ^ -7: no table
abbrev pub low_arc : ℕ → ℕ
low_arc a = arc_of 0 (scaled_of a 94)

unfoldable pub asin_mag : ℕ → ℕ
unfolding mid_arc
asin_mag a = pick (ltb a 0x3c00_0000) (low_arc a) (mid_arc (scaled_of a 118))

-- from the bit pattern of x to that of its arc sine: below 2 ^ -12 x itself, at 1 half pi (0x3fc9_0fdb), and NaN outside -1 to 1
unfoldable pub asin_bits : ℕ → ℕ
unfolding asin_mag
asin_bits b =
    let a = b % 2 ^ 31 in
    let t = b / 2 ^ 31 * 2 ^ 31 in
    pick (ltb a 0x3980_0000) b (pick (ltb a 0x3f80_0000) (t + pattern (asin_mag a)) (pick (leb a 0x3f80_0000) (t + 0x3fc9_0fdb) 0x7fc0_0000))

unfoldable pub asin_of : Float → Float
unfolding asin_bits
asin_of x = of_bits binary32 (asin_bits (to_bits binary32 x))
