-- The numbers of a point.
use Rattle.std.specs.Prelude.{ℕ, ◌+◌, ◌*◌, List, get_or, Float}
use Rattle.std.specs.Float.{binary32}
use Rattle.std.specs.Float.Ieee.{of_bits}

-- Word j of point i of a circuit's points, fifteen words each, as the number whose bits it is: fi are 0 to 2, yi 3 to 5, hi 6 to
-- 8, Es fs 9 to 11, hs is 12, clat 13, clck 14.
unfoldable pub point_number : List ℕ → ℕ → ℕ → Float
point_number points i j = of_bits binary32 (get_or points (15 * i + j) 0)
