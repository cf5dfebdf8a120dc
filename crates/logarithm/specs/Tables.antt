-- The table of ln. Definitions only; each entry is proved by the power series of e where the results are proved near.
use Rattle.std.specs.Prelude.{List, [], ◌∷◌, ℕ}

-- ln (1 + i / 8) in units of 2 ^ -56, cut off
unfoldable pub eighths : List ℕ
eighths = 0 ∷ 8487162167882469 ∷ 16079187432780867 ∷ 22947009676802825 ∷ 29216840156602671 ∷ 34984525091838898 ∷ 40324567264265857 ∷ 45296027589383539 ∷ 49946518145322873 ∷ []
