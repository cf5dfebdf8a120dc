-- The logarithm's own series, where `ln_of` uses it: ln ((1 + s) / (1 - s)) is 2 (s + s³ / 3 + s⁵ / 5 + ..) for the s = n / d that is left of the argument, which is at most 1/32.
use Rattle.std.specs.Prelude.{ℕ, ◌+◌, ◌-◌, ◌*◌, ◌^◌, ◌≤◌, ◌≡◌}
use Rattle.series.specs.Series.{ExpLe, ExpGe}

-- 15 d⁵ times the three terms s + s³ / 3 + s⁵ / 5; E is d²
abbrev pub three_terms : (n E : ℕ) → ℕ
three_terms n E = 15 * n * (E * E) + 5 * (n * n * n) * E + 3 * (n * n * n * n * n)

-- The logarithm lies between the three terms, doubled, less 2 ^ -27 of them and the same with 2 ^ -27 of them more: two fractions from its own series and remainder. (1 + s) / (1 - s) is (d + n) / z.
abbrev pub LnOwnSeries : Type 0
LnOwnSeries =
    (d n z : ℕ) → 2 ^ 48 ≤ d → d ≡ n + z → 32 * n ≤ d
    → ExpLe (2 * (2 ^ 27 - 1) * three_terms n (d * d)) (15 * (d * d * (d * d) * d) * 2 ^ 27) (d + n) z
    × ExpGe (2 * (2 ^ 27 + 1) * three_terms n (d * d)) (15 * (d * d * (d * d) * d) * 2 ^ 27) (d + n) z
