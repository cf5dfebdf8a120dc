-- The decimal literals of `nommuf` that no other function has, by name: `f0_2085` is the f32 that the Rust writes `0.2085`. The
-- table at the end says which decimal each one is written for, and below it stands that each is the f32 nearest to
-- its decimal.
use Rattle.std.specs.Prelude.{List, [], ◌∷◌, map, ◌≡◌, Float}
use Rattle.std.specs.Float.{binary32}
use Rattle.std.specs.Float.Ieee.{of_bits}
use Rattle.scalar.specs.F32.{negf}
use Rattle.scalar.specs.Literals.{Literal, is, decimal}

abbrev pub f0_000000004368460907 : Float
f0_000000004368460907 = of_bits binary32 0x31961963

abbrev pub f0_000000006712654756 : Float
f0_000000006712654756 = of_bits binary32 0x31e6a523

abbrev pub f0_0000001334494261 : Float
f0_0000001334494261 = of_bits binary32 0x340f4a4d

abbrev pub f0_000000449151441 : Float
f0_000000449151441 = of_bits binary32 0x34f122e7

abbrev pub f0_000005976618436 : Float
f0_000005976618436 = of_bits binary32 0x36c88ac3

abbrev pub f0_000009985831104 : Float
f0_000009985831104 = of_bits binary32 0x372788d1

abbrev pub f0_00006865259817 : Float
f0_00006865259817 = of_bits binary32 0x388ff995

abbrev pub f0_00009202437332 : Float
f0_00009202437332 = of_bits binary32 0x38c0fd36

abbrev pub f0_0002624808315 : Float
f0_0002624808315 = of_bits binary32 0x39899d95

abbrev pub f0_002264634341 : Float
f0_002264634341 = of_bits binary32 0x3b146a42

abbrev pub f0_004699243101 : Float
f0_004699243101 = of_bits binary32 0x3b99fc1c

abbrev pub f0_005038476266 : Float
f0_005038476266 = of_bits binary32 0x3ba519cd

abbrev pub f0_0062137 : Float
f0_0062137 = of_bits binary32 0x3bcb9c4b

abbrev pub f0_01133200756 : Float
f0_01133200756 = of_bits binary32 0x3c39a9e2

abbrev pub f0_03761385053 : Float
f0_03761385053 = of_bits binary32 0x3d1a10fb

abbrev pub f0_2085 : Float
f0_2085 = of_bits binary32 0x3e558106

abbrev pub f1_02 : Float
f1_02 = of_bits binary32 0x3f828f5c

abbrev pub f1_15 : Float
f1_15 = of_bits binary32 0x3f933333

abbrev pub f4_871 : Float
f4_871 = of_bits binary32 0x409bdf3b

abbrev pub f225 : Float
f225 = of_bits binary32 0x43610000

-- The coefficients of the polynomials in the distance, those of its first power first: of the E layer's factor, whose constant
-- 0.2085 stands apart,
unfoldable pub AE : List Float
AE = negf f0_01133200756 ∷ f0_03761385053 ∷ negf f0_005038476266 ∷ f0_0002624808315 ∷ negf f0_000005976618436 ∷ f0_0000001334494261 ∷ negf f0_000000004368460907 ∷ []

-- and of the F2 layer's
unfoldable pub AF : List Float
AF = f0_004699243101 ∷ f0_002264634341 ∷ f0_00009202437332 ∷ f0_00006865259817 ∷ negf f0_000009985831104 ∷ f0_000000449151441 ∷ negf f0_000000006712654756 ∷ []

unfoldable pub coefficients : List Literal
coefficients =
    is f0_000000004368460907 4368460907 18 ∷
    is f0_000000006712654756 6712654756 18 ∷
    is f0_0000001334494261 1334494261 16 ∷
    is f0_000000449151441 449151441 15 ∷
    is f0_000005976618436 5976618436 15 ∷
    is f0_000009985831104 9985831104 15 ∷
    is f0_00006865259817 6865259817 14 ∷
    is f0_00009202437332 9202437332 14 ∷
    is f0_0002624808315 2624808315 13 ∷
    is f0_002264634341 2264634341 12 ∷
    is f0_004699243101 4699243101 12 ∷
    is f0_005038476266 5038476266 12 ∷
    is f0_0062137 62137 7 ∷
    is f0_01133200756 1133200756 11 ∷
    is f0_03761385053 3761385053 11 ∷
    is f0_2085 2085 4 ∷
    is f1_02 102 2 ∷
    is f1_15 115 2 ∷
    is f4_871 4871 3 ∷
    is f225 225 0 ∷
    []

-- each is the f32 nearest to its decimal
abbrev pub CoefficientsNearest : Type 0
CoefficientsNearest = map (λ (l : Literal). l.value) coefficients ≡ map (λ (l : Literal). decimal l.digits l.places) coefficients
