-- Two fractions that enclose the sine or the cosine of n / d: a partial sum, and the one with the next term.
-- The partial sum up to number k is num (class a) less num (class b), over full d k (crate `series`): a and b are 1 and 3 for the sine, 0 and 2 for the cosine.
use Rattle.std.specs.Prelude.{ℕ, suc, ◌+◌, ◌*◌, ◌^◌, ◌≤◌, ◌<◌}
use Rattle.series.specs.Series.{full, num, class, Later}
use Rattle.exact.specs.Unit.{unity}

-- the partial sum up to number j is at most the one up to number k
abbrev pub SumNotAbove : (a b n d j k : ℕ) → Type 0
SumNotAbove a b n d j k = num (class a) n d j * full d k + num (class b) n d k * full d j ≤ num (class a) n d k * full d j + num (class b) n d j * full d k

-- all later partial sums lie between the one up to number j and the one up to number j + 1
abbrev pub Nested : (a b n d j : ℕ) → Type 0
Nested a b n d j = (k : ℕ) → suc j ≤ k → SumNotAbove a b n d j k × SumNotAbove a b n d k (suc j)

-- p / c less q / c is less than u / m from r / m less t / m
pub record Less (m r t u p q c : ℕ) : Type 0 where
  pub low : r * c + m * q < m * p + (t + u) * c
  pub high : m * p + t * c < m * q + (r + u) * c

-- both fractions are less than u from r - t, in the units of `unity`
abbrev pub TwoFractions : (a b n d j r t u : ℕ) → Type 0
TwoFractions a b n d j r t u =
    Nested a b n d j
    × Less unity r t u (num (class a) n d j) (num (class b) n d j) (full d j)
    × Less unity r t u (num (class a) n d (suc j)) (num (class b) n d (suc j)) (full d (suc j))

-- ---- what is claimed of them: up to 4 they are nested, from 4 i on for the sine and from 4 i + 3 on for the cosine, and narrow, so they name one number
pub record OneWave : Type 0 where
  pub sine-nested : (n d i : ℕ) → 0 < d → n ≤ 4 * d → 1 ≤ i → Nested 1 3 n d (4 * i)
  pub cosine-nested : (n d i : ℕ) → 0 < d → n ≤ 4 * d → Nested 0 2 n d (4 * i + 3)
  -- the two are at most the term of number k = j + 1 apart, which falls below every 1 / N
  pub narrow : (n d N : ℕ) → 0 < d → Later (λ k. N * n ^ k ≤ full d k)
