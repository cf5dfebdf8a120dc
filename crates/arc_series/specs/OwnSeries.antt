-- The arc tangent's own series, up to 1: with v = n / c, the arc tangent of v lies between v - v³ / 3 and v - v³ / 3 + v⁵ / 4, two terms and a remainder. That an angle is at or below the arc tangent is said as everywhere, by the partial sums of sine and cosine: sin y ≤ v cos y.
use Rattle.std.specs.Prelude.{ℕ, ◌+◌, ◌-◌, ◌*◌, ◌≤◌, ◌<◌}
use Rattle.series.specs.Series.{SinLe, SinGe}

abbrev pub AtanOwnSeries : Type 0
AtanOwnSeries =
    (n c : ℕ) → 0 < c → n ≤ c
    → SinLe (3 * n * (c * c) - n * n * n) (3 * (c * c) * c) n c
    × SinGe (12 * n * (c * c * (c * c)) + 3 * (n * n * n * n * n) - 4 * (n * n * n) * (c * c)) (12 * (c * c * (c * c)) * c) n c
