-- A guess at the digits of the root of the f32 with the pattern b, and the test of it, in whole numbers.
use Rattle.std.specs.Prelude.{List, ℕ, ◌+◌, ◌*◌, ◌/◌, ◌%◌, ◌^◌, ◌≤◌, ◌<◌, get_or}

-- b is the pattern of a normal f32 above zero
abbrev pub Normal : ℕ → Type 0
Normal b = (2 ^ 23 ≤ b) × (b < 0x7f80_0000)

-- its 24 digits, with 23 or 24 zeros after them: an even number of places from the f32
abbrev pub rooted : ℕ → ℕ
rooted b = (2 ^ 23 + b % 2 ^ 23) * (2 ^ 23 + (b / 2 ^ 23 + 1) % 2 * 2 ^ 23)

-- r is the root of these, rounded: the square of r - 1/2 is below them, that of r + 1/2 above
abbrev pub Right : ℕ → ℕ → Type 0
Right b r = (r * r < rooted b + r) × (rooted b ≤ r * r + r)

-- the first n guesses are right
abbrev pub AllRight : List ℕ → List ℕ → ℕ → Type 0
AllRight b g n = (k : ℕ) → k < n → Normal (get_or b k 0) × Right (get_or b k 0) (get_or g k 0 % 2 ^ 25)
