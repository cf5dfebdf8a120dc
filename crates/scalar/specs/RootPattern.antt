-- How `sqrt` finds the pattern of the root of m * 2 ^ (h - 126) units, for an m of 24 digits: the digits are those of the root of m with 25 or 26 zeros after it, rounded, and
-- h / 2 goes to the exponent's field.
use Rattle.std.specs.Prelude.{ℕ, ◌+◌, ◌*◌, ◌/◌, ◌%◌, ◌^◌}
use Rattle.scalar.specs.Root.{root}

abbrev pub radicand : ℕ → ℕ → ℕ
radicand m h = m * 2 ^ (25 + h % 2)

abbrev pub root_digits : ℕ → ℕ → ℕ
root_digits m h = (root (radicand m h) + 1) / 2

abbrev pub root_pattern : ℕ → ℕ → ℕ
root_pattern m h = h / 2 * 2 ^ 23 + root_digits m h
