-- What is claimed of the test.
use Rattle.std.specs.Prelude.{◌≡◌, ℕ, ◌+◌, ◌^◌, ◌<◌, pos, T, Float}
use Rattle.std.specs.Float.{binary32}
use Rattle.std.specs.Float.Ieee.{fits, of_int}
use Rattle.scalar.specs.F32.{◌*f◌, ◌≤f◌}
use Rattle.scalar.specs.Literals.{f0_000001, f1}
use Rattle.reflectrix.specs.Cell.{khz_of, low_of, high_of}

-- n * n * s and (n + 1) * (n + 1) * s as the code has them
abbrev pub product_of : ℕ → Float → Float
product_of n s = of_int binary32 (pos n) *f of_int binary32 (pos n) *f s

-- a number below 2^22 that passes the test is the cell, whatever the frequency; s is any f32 from a millionth to 1
abbrev pub TestSuffices : Type 0
TestSuffices =
    (fvv s : Float) (n : ℕ) → T (fits binary32 fvv) → T (fits binary32 s) → T (f0_000001 ≤f s) → T (s ≤f f1) → n < 2 ^ 22
    → T (product_of n s ≤f low_of fvv) → T (high_of fvv ≤f product_of (n + 1) s) → khz_of fvv s ≡ pos n
