-- ln 2, and the table of exp. Definitions only; each entry is proved by the power series of e where the results are proved near.
use Rattle.std.specs.Prelude.{List, [], ◌∷◌, ℕ}

-- ln 2 in units of 2 ^ -56, cut off
abbrev pub ln2 : ℕ
ln2 = 49946518145322873

-- e ^ (j / 16) in units of 2 ^ -62, cut off: up to ln 2
unfoldable pub sixteenths : List ℕ
sixteenths = 4611686018427387904 ∷ 4909114212884919797 ∷ 5225724877810906087 ∷ 5562755176258917557 ∷ 5921522061444258205 ∷ 6303427422767273197 ∷ 6709963563726645640 ∷ 7142719033127747440 ∷ 7603384832371617573 ∷ 8093761023079684368 ∷ 8615763760873668978 ∷ 9171432782795317876 ∷ []
