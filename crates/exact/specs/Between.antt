-- Nearness with a unit to each side. Definitions only.
use Rattle.std.specs.Prelude.{ℕ, ◌+◌, ◌*◌, ◌≤◌}

-- A partial sum (p - q) / c is at least the number (r - t) / m less l / m and at most that number and h / m, where one of r and t is 0.
-- With one unit for both it is `Close` of `series`.
pub record Between (m r t l h p q c : ℕ) : Type 0 where
  pub low : r * c + m * q ≤ m * p + (t + l) * c
  pub high : m * p + t * c ≤ m * q + (r + h) * c
