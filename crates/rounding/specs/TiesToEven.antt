-- What IEEE 754 asks of roundTiesToEven (section 4.3.1), in whole numbers, since there are no real numbers here. That the logic's `round` meets it, and nothing
-- else does, and that each operation is its exact result so rounded, is stated in Laws.antt. Definitions only.
-- The number to be rounded is the fraction a / c, for a c above 0, with the sign s (true is minus). A finite value y of a format is ±num y / den y.
use Rattle.std.specs.Prelude.{ℕ, suc, ◌+◌, ◌-◌, ◌*◌, ◌%◌, ◌^◌, ◌≤◌, ◌<◌, ◌≡◌, Bool, true, false, ◌&&◌, cond, ℤ, pos, negsuc, T, ltb, Float}
use Rattle.std.specs.Bool.{beq}
use Rattle.std.specs.Float.{nan, inf, fin, Format}
use Rattle.std.specs.Float.Ieee.{prec, emax, up, down, fits, to_bits}
use Rattle.std.specs.Float.Ieee.Positive.{den}
use Rattle.std.specs.Float.Ieee.Scale.{finite}

-- |a - b|
abbrev pub gap : ℕ → ℕ → ℕ
gap a b = (a - b) + (b - a)

-- How far y is from the number: off s a c y / (c * den y). Between unlike signs the distance is the sum of the sizes.
abbrev pub off : Bool → ℕ → ℕ → Float → ℕ
off s a c nan = 0
off s a c (inf t) = 0
off s a c (fin t m e) = cond (beq s t) (gap (m * up e * c) (a * down e)) (m * up e * c + a * down e)

-- the value has the sign s
abbrev pub signed : Bool → Float → Type 0
signed s nan = ⊥
signed s (inf t) = t ≡ s
signed s (fin t m e) = t ≡ s

-- half a step above the largest finite value: 2 ^ 128 - 2 ^ 103 for binary32
abbrev pub limit : Format → ℕ
limit f = 2 ^ suc (emax f) - 2 ^ (emax f - prec f)

-- r is a value of the format that is nearest to the number, and if another is as near, r is the one whose last digit, the lowest bit of its pattern, is even
pub record Nearest (f : Format) (s : Bool) (a c : ℕ) (r : Float) : Type 0 where
  pub held : T (fits f r)
  pub is_finite : T (finite r)
  pub sign : signed s r
  pub nearest : (y : Float) → T (fits f y) → T (finite y) → off s a c r * den y ≤ off s a c y * den r
  pub even : (y : Float) → T (fits f y) → T (finite y) → off s a c r * den y ≡ off s a c y * den r → (y ≡ r → ⊥) → to_bits f r % 2 ≡ 0

-- `Nearest` below the limit, and from the limit on an infinity of the number's sign
pub record TiesToEven (f : Format) (s : Bool) (a c : ℕ) (r : Float) : Type 0 where
  pub below : a < limit f * c → Nearest f s a c r
  pub above : limit f * c ≤ a → r ≡ inf s

-- ---- the exact results of the operations that are not plain products

-- ±a + ±b: its size, and its sign, which of a zero sum is minus only where both are
abbrev pub sum_size : Bool → ℕ → Bool → ℕ → ℕ
sum_size s a t b = cond (beq s t) (a + b) (cond (ltb a b) (b - a) (a - b))

abbrev pub sum_sign : Bool → ℕ → Bool → ℕ → Bool
sum_sign s a t b = cond (beq s t) s (cond (ltb a b) t (s && ltb b a))

-- an integer's sign
abbrev pub is_minus : ℤ → Bool
is_minus (pos n) = false
is_minus (negsuc n) = true
