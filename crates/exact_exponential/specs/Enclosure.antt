-- e ^ x enclosed by two fractions: a partial sum of the power series at x, and the same with its last term once more, which is more than all later terms together.
-- With x = n / d the terms up to number N come to num one n d N / full d N, and the last of them is n ^ N / full d N (crate `series`).
use Rattle.std.specs.Prelude.{ℕ, suc, ◌+◌, ◌*◌, ◌^◌, ◌≤◌, ◌<◌, true, false, T, Float}
use Rattle.std.specs.Float.{nan, inf, fin, binary32}
use Rattle.std.specs.Float.Ieee.{up, down, fits}
use Rattle.series.specs.Series.{full, num, one, ExpLe, ExpGe}
use Rattle.scalar.specs.Root.{steps}
use Rattle.exact.specs.Unit.{ulp, ulp_below}
use Rattle.exponential.specs.Exp.{exp_of}
use Rattle.exact_exponential.specs.Exp.{NearExp}

-- a / b is more than v / 2 ^ 149 less l / 2 ^ 149, and less than v / 2 ^ 149 and u / 2 ^ 149
pub record NearerThan (v l u a b : ℕ) : Type 0 where
  pub low : v * b < 2 ^ 149 * a + l * b
  pub high : 2 ^ 149 * a < (v + u) * b

-- the lower fraction is p / f and the upper one p' / f
abbrev pub upper_sum : (n d N : ℕ) → ℕ
upper_sum n d N = num one n d N + n ^ N

-- they enclose every later partial sum: p / f ≤ num / full ≤ p' / f
abbrev pub Inside : (n d N : ℕ) → Type 0
Inside n d N = (k : ℕ) → N ≤ k → (num one n d N * full d k ≤ num one n d k * full d N) × (num one n d k * full d N ≤ upper_sum n d N * full d k)

-- e ^ (n / d): both fractions are less than l below v and less than u above it
pub record Enclosed (n d v l u : ℕ) : Type 0 where
  pub terms : ℕ
  pub inside : Inside n d terms
  pub lower : NearerThan v l u (num one n d terms) (full d terms)
  pub upper : NearerThan v l u (upper_sum n d terms) (full d terms)

-- e ^ -(n / d): the reciprocals of both are
pub record EnclosedBelow (n d v l u : ℕ) : Type 0 where
  pub terms : ℕ
  pub inside : Inside n d terms
  pub upper : NearerThan v l u (full d terms) (num one n d terms)
  pub lower : NearerThan v l u (full d terms) (upper_sum n d terms)

-- every case of an f32 x and a result r; below r the unit is that of the floats there
abbrev pub EnclosedExp : Float → Float → Type 0
EnclosedExp (fin false m e) (fin false n f) = Enclosed (m * up e) (down e) (steps (fin false n f)) (ulp_below (fin false n f)) (ulp (fin false n f))
EnclosedExp (fin true m e) (fin false n f) = EnclosedBelow (m * up e) (down e) (steps (fin false n f)) (ulp_below (fin false n f)) (ulp (fin false n f))
EnclosedExp (fin s m e) (fin true n f) = NearExp (fin s m e) (fin true n f)
EnclosedExp (fin s m e) nan = NearExp (fin s m e) nan
EnclosedExp (fin s m e) (inf t) = NearExp (fin s m e) (inf t)
EnclosedExp nan r = NearExp nan r
EnclosedExp (inf s) r = NearExp (inf s) r

-- The enclosures are nested, and narrower than every given fraction 1 / M from some number of terms on: so they name one number, e ^ (n / d).
pub record OneNumber (n d : ℕ) : Type 0 where
  pub rising : (k : ℕ) → num one n d k * full d (suc k) ≤ num one n d (suc k) * full d k
  pub falling : (k : ℕ) → 2 * n ≤ d * suc k → upper_sum n d (suc k) * full d k ≤ upper_sum n d k * full d (suc k)
  pub narrow : (M : ℕ) → (N : ℕ) × ((k : ℕ) → N ≤ k → (2 * n ≤ d * suc k) × (M * n ^ k ≤ full d k))

-- The series rises with its argument: e ^ ((a + h) / d) is at least 1 + h / d times e ^ (a / d). So where e ^ l ≤ x ≤ e ^ r, the logarithm of x lies between l and r.
abbrev pub SeriesRises : (a h d : ℕ) → Type 0
SeriesRises a h d = (k : ℕ) → num one a d k * (d + h) * full d (k + 1) ≤ num one (a + h) d (k + 1) * (full d k * d)

-- ---- the theorems
abbrev pub ExpEnclosed : Type 0
ExpEnclosed = (x : Float) → T (fits binary32 x) → EnclosedExp x (exp_of x)

abbrev pub ExpOneNumber : Type 0
ExpOneNumber = (n d : ℕ) → 0 < d → OneNumber n d

abbrev pub ExpRises : Type 0
ExpRises = (a h d : ℕ) → 0 < d → SeriesRises a h d

-- No exponent n / d with e ^ (n / d) ≤ a / b is above an m / d with a / b ≤ e ^ (m / d): between them lies one number, the logarithm of a / b; where that is negative, its opposite lies so between those of b / a.
abbrev pub ExpPins : Type 0
ExpPins = (n m d a b : ℕ) → 0 < d → 0 < b → ExpLe n d a b → ExpGe m d a b → n ≤ m
