-- How cosine and sine run up to 2, said of every partial sum: the cosine falls, and the sine rises by more than the way times the cosine at its end, so it rises as long as the cosine is not negative, and the tangent with it. So an angle is pinned by its sine, and by its tangent.
-- The angles are y / d and z / d with z = y + h; the partial sums up to number k are num (class 0) - num (class 2) and num (class 1) - num (class 3), over full d k.
use Rattle.std.specs.Prelude.{ℕ, suc, ◌+◌, ◌*◌, ◌≤◌, ◌<◌, ◌⊎◌}
use Rattle.series.specs.Series.{num, class, SinLe, SinGe, SineAtMost, SineAtLeast, CosineNotNegative, CosineNotPositive}

-- cos z < cos y
abbrev pub CosineFalls : Type 0
CosineFalls =
    (y h d k : ℕ) → 0 < d → 0 < h → y + h ≤ 2 * d
    → num (class 0) (y + h) d (suc (suc k)) + num (class 2) y d (suc (suc k)) < num (class 0) y d (suc (suc k)) + num (class 2) (y + h) d (suc (suc k))

-- sin y + h cos z < sin z; the cosine has one term less, and full d (k + 1) is full d k times d * (k + 1)
abbrev pub SineRises : Type 0
SineRises =
    (y h d k : ℕ) → 0 < d → 0 < h → y + h ≤ 2 * d
    → num (class 1) y d (suc (suc (suc k))) + num (class 3) (y + h) d (suc (suc (suc k))) + h * (suc (suc (suc k)) * num (class 0) (y + h) d (suc (suc k)))
    < num (class 1) (y + h) d (suc (suc (suc k))) + num (class 3) y d (suc (suc (suc k))) + h * (suc (suc (suc k)) * num (class 2) (y + h) d (suc (suc k)))

-- No angle y up to 2 whose sine is at most n / c, and whose cosine is not negative, is above an angle z whose sine is at least n / c, or whose cosine is not positive: between them lies one number, the arc sine of n / c.
abbrev pub SinePins : Type 0
SinePins =
    (y z d n c : ℕ) → 0 < d → 0 < c → y ≤ 2 * d
    → CosineNotNegative y d → SineAtMost y d n c → SineAtLeast z d n c ⊎ CosineNotPositive z d → y ≤ z

-- the same of the tangent, the cosine brought to the other side: between them lies the arc tangent of n / c
abbrev pub TangentPins : Type 0
TangentPins = (y z d n c : ℕ) → 0 < d → 0 < c → y ≤ 2 * d → SinLe y d n c → SinGe z d n c → y ≤ z
