-- What is claimed of the scalar functions, beside their contracts.
use Rattle.std.specs.Prelude.{◌≡◌, ◌⊎◌, true, false, map, T, Float}
use Rattle.std.specs.Float.{nan, binary32}
use Rattle.std.specs.Float.Ieee.{fits, is_nan, le, eq, to_signed}
use Rattle.std.specs.Float.Ieee.Positive.{positive}
use Rattle.scalar.specs.Literals.{Literal, literals, decimal}
use Rattle.scalar.specs.Scalar.{min_of, max_of, trunc_of}
use Rattle.scalar.specs.Root.{sqrt_of, CorrectRoot}

-- each named literal is the f32 nearest to its decimal
abbrev pub LiteralsNearest : Type 0
LiteralsNearest = map (λ (l : Literal). l.value) literals ≡ map (λ (l : Literal). decimal l.digits l.places) literals

-- the cut to an i32 is the logic's cast
abbrev pub TruncIsCast : Type 0
TruncIsCast = (x : Float) → trunc_of x ≡ to_signed 31 x

-- the paper's sentences on minimum and maximum
pub record MinMax : Type 0 where
  -- a NaN is dropped
  pub min-drops-nan-first : (b : Float) → min_of nan b ≡ b
  pub min-drops-nan-second : (a : Float) → min_of a nan ≡ a
  -- of two equal values, -0 and +0 too, the first is the answer
  pub min-first-of-equals : (a b : Float) → eq a b ≡ true → min_of a b ≡ a
  pub min-nan-only-from-two : (a b : Float) → min_of a b ≡ nan → (a ≡ nan) × (b ≡ nan)
  pub min-is-operand : (a b : Float) → (min_of a b ≡ a) ⊎ (min_of a b ≡ b)
  pub min-not-above : (a b : Float) → (is_nan a ≡ false → T (le (min_of a b) a)) × (is_nan b ≡ false → T (le (min_of a b) b))
  pub max-drops-nan-first : (b : Float) → max_of nan b ≡ b
  pub max-drops-nan-second : (a : Float) → max_of a nan ≡ a
  pub max-first-of-equals : (a b : Float) → eq a b ≡ true → max_of a b ≡ a
  pub max-nan-only-from-two : (a b : Float) → max_of a b ≡ nan → (a ≡ nan) × (b ≡ nan)
  pub max-is-operand : (a b : Float) → (max_of a b ≡ a) ⊎ (max_of a b ≡ b)
  pub max-not-below : (a b : Float) → (is_nan a ≡ false → T (le a (max_of a b))) × (is_nan b ≡ false → T (le b (max_of a b)))

-- the root of every f32 that is finite and above zero is correctly rounded, and nothing else is; `sqrt_of` itself says what stands for the others
abbrev pub SqrtCorrect : Type 0
SqrtCorrect = (x : Float) → T (fits binary32 x) → T (positive x) → CorrectRoot x (sqrt_of x)

abbrev pub OnlyRoot : Type 0
OnlyRoot = (x r : Float) → T (fits binary32 x) → T (positive x) → CorrectRoot x r → r ≡ sqrt_of x
