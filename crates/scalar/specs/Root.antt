-- The square root of an f32, correctly rounded: IEEE 754's squareRoot, in whole numbers. Definitions only. That `sqrt_of` is the f32 nearest to the root, and that nothing else is,
-- is stated in Laws.antt.
use Rattle.std.specs.Prelude.{ℕ, zero, suc, ◌+◌, ◌*◌, ◌/◌, ◌^◌, ◌<◌, true, false, cond, T, leb, eqb, Float}
use Rattle.std.specs.Float.{nan, inf, fin, binary32}
use Rattle.std.specs.Float.Ieee.{up, down, size, round, fits}
use Rattle.std.specs.Float.Ieee.Scale.{finite}
use Rattle.std.specs.Float.Ieee.Positive.{positive, num, den}

-- The largest r with r * r ≤ n, for an n below 4 ^ d: a binary digit at a time, of the root of n / 4 first.
unfoldable pub root_in : ℕ → ℕ → ℕ
root_in zero n = zero
root_in (suc d) n = let r = 2 * root_in d (n / 4) in cond (leb (suc r * suc r) n) (suc r) r

unfoldable pub root : ℕ → ℕ
unfolding root_in
root n = root_in (size n) n

-- The unit is the smallest f32 above zero, 2 ^ -149. The size of every finite f32 is a whole number of units.
abbrev pub steps : Float → ℕ
steps nan = 0
steps (inf s) = 0
steps (fin s m e) = m * up e * 2 ^ 149 / down e

-- The root of n units is √(n * 2 ^ 149) units. Its whole part is r, and what is left of the root, if anything is, is handed to `round` as half a unit.
unfoldable pub root_of_units : ℕ → Float
unfolding root
root_of_units n =
    let a = n * 2 ^ 149 in
    let r = root a in
    round binary32 false (cond (eqb (r * r) a) (2 * r) (2 * r + 1)) (2 * 2 ^ 149)

-- Of NaN and of a value below zero the root is NaN, of a zero that zero, and of +infinity +infinity.
unfoldable pub sqrt_of : Float → Float
unfolding root_of_units
sqrt_of nan = nan
sqrt_of (inf s) = cond s nan (inf false)
sqrt_of (fin s zero e) = fin s zero e
sqrt_of (fin true (suc m) e) = nan
sqrt_of (fin false (suc m) e) = root_of_units (steps (fin false (suc m) e))

-- r is the correctly rounded root of x, both finite and above zero: said with squares, since there are no real numbers here. A finite value v is num v / den v in size.
-- `below` and `above`: no f32 y is as near to √x as r is, since ((y + r) / 2) ^ 2 < x for every y below r, and x < ((y + r) / 2) ^ 2 for every y above r.
-- So √x is on r's side of the middle between the two, and there are no ties.
abbrev pub sq : ℕ → ℕ
sq n = n * n

pub record CorrectRoot (x r : Float) : Type 0 where
  pub held : T (fits binary32 r)
  pub is_positive : T (positive r)
  pub below : (y : Float) → T (fits binary32 y) → T (finite y) → num y * den r < num r * den y → sq (num y * den r + num r * den y) * den x < sq (2 * (den y * den r)) * num x
  pub above : (y : Float) → T (fits binary32 y) → T (finite y) → num r * den y < num y * den r → sq (2 * (den y * den r)) * num x < sq (num y * den r + num r * den y) * den x
