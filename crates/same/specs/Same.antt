-- When two numbers are the same: their bits are equal, and any NaN is like any other. So -0 is not +0.
use Rattle.std.specs.Prelude.{Bool, ◌&&◌, ◌||◌, List, [], ◌∷◌, ◌≡◌, ℕ, ◌%◌, ◌^◌, ◌<◌, T, eqb, ltb, Float}
use Rattle.std.specs.Float.{binary32}
use Rattle.std.specs.Float.Ieee.{fits, of_bits, to_bits}

-- ---- two words of 32 bits, as programs compare them

-- a NaN's: all bits of the exponent and some of the fraction
abbrev pub nan_pattern : ℕ → Bool
nan_pattern b = ltb 0x7f80_0000 (b % 2 ^ 31)

abbrev pub same_bits : ℕ → ℕ → Bool
same_bits a b = eqb a b || (nan_pattern a && nan_pattern b)

-- ---- two numbers, and two lists of them

unfoldable pub Same : Float → Float → Type 0
Same x y = T (same_bits (to_bits binary32 x) (to_bits binary32 y))

-- as many, and each the same
abbrev pub SameAll : List Float → List Float → Type 0
SameAll [] [] = Unit {0}
SameAll [] (y ∷ ys) = ⊥
SameAll (x ∷ xs) [] = ⊥
SameAll (x ∷ xs) (y ∷ ys) = Same x y × SameAll xs ys

-- ---- what is claimed

abbrev pub F32 : Float → Type 0
F32 x = T (fits binary32 x)

abbrev pub AllF32 : List Float → Type 0
AllF32 [] = Unit {0}
AllF32 (x ∷ xs) = F32 x × AllF32 xs

pub record SameIsEqual : Type 0 where
  -- an equation says that the numbers are the same; of f32 numbers it says no more
  pub equal-same : (x y : Float) → x ≡ y → Same x y
  pub same-equal : (x y : Float) → F32 x → F32 y → Same x y → x ≡ y
  pub equal-all : (xs ys : List Float) → xs ≡ ys → SameAll xs ys
  pub all-equal : (xs ys : List Float) → AllF32 xs → AllF32 ys → SameAll xs ys → xs ≡ ys
  -- two words compare as the numbers that they stand for
  pub words_same : (a b : ℕ) → a < 2 ^ 32 → b < 2 ^ 32 → T (same_bits a b) → of_bits binary32 a ≡ of_bits binary32 b
  pub numbers-same : (a b : ℕ) → a < 2 ^ 32 → b < 2 ^ 32 → of_bits binary32 a ≡ of_bits binary32 b → T (same_bits a b)
  -- the two zeros are not the same, though they are equal in IEEE 754's comparison
  pub zeros_differ : Same (of_bits binary32 0x8000_0000) (of_bits binary32 0) → ⊥
