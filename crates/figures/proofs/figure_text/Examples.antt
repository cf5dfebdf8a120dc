-- The figure at its edges: of the f32 nearest to 0.7, of -0, of -0.03, of the halves 1.25, 1.75 and -1.25, of the last f32 that has a figure and the first that has stars at either end, of both infinities and of NaN.
use mathlib.Core.Path.{◌≡◌, refl}
use mathlib.Core.List.{List, [], ◌∷◌, map}
use Prim.Native.Nat.{ℕ}
use lib.Ieee.{binary32, of_bits}
use Rattle.lines.specs.Text.{decimal_in, decimal_of, joined}
use Rattle.lines.specs.Aligned.{star, repeated, right}
use Rattle.figures.specs.Nearest.{nearest}
use Rattle.figures.specs.Figure.{figure_of}
use Rattle.figures.specs.FigureText.{dash, point, tenths_text, figure_text}

abbrev printed : ℕ → List ℕ
printed bits = figure_text (figure_of (of_bits binary32 bits))

abbrev stars : List ℕ
stars = star ∷ star ∷ star ∷ star ∷ star ∷ []

-- `  0.7`, `  0.0`, `  0.0`, `  1.2`, `  1.8`, ` -1.2`
pub rounded : map printed (0x3f33_3333 ∷ 0x8000_0000 ∷ 0xbcf5_c28f ∷ 0x3fa0_0000 ∷ 0x3fe0_0000 ∷ 0xbfa0_0000 ∷ [])
    ≡ (32 ∷ 32 ∷ 48 ∷ point ∷ 55 ∷ []) ∷ (32 ∷ 32 ∷ 48 ∷ point ∷ 48 ∷ []) ∷ (32 ∷ 32 ∷ 48 ∷ point ∷ 48 ∷ []) ∷ (32 ∷ 32 ∷ 49 ∷ point ∷ 50 ∷ []) ∷ (32 ∷ 32 ∷ 49 ∷ point ∷ 56 ∷ []) ∷ (32 ∷ dash ∷ 49 ∷ point ∷ 50 ∷ []) ∷ []
unfolding figure_text figure_of of_bits nearest right repeated joined tenths_text decimal_of decimal_in
rounded = refl

-- `999.9` and stars, `-99.9` and stars, `  inf` twice, `  NaN`
pub ends : map printed (0x4479_fccc ∷ 0x4479_fccd ∷ 0xc2c7_e666 ∷ 0xc2c7_e667 ∷ 0x7f80_0000 ∷ 0xff80_0000 ∷ 0x7fc0_0000 ∷ [])
    ≡ (57 ∷ 57 ∷ 57 ∷ point ∷ 57 ∷ []) ∷ stars ∷ (dash ∷ 57 ∷ 57 ∷ point ∷ 57 ∷ []) ∷ stars ∷ (32 ∷ 32 ∷ 105 ∷ 110 ∷ 102 ∷ []) ∷ (32 ∷ 32 ∷ 105 ∷ 110 ∷ 102 ∷ []) ∷ (32 ∷ 32 ∷ 78 ∷ 97 ∷ 78 ∷ []) ∷ []
unfolding figure_text figure_of of_bits nearest right repeated joined tenths_text decimal_of decimal_in
ends = refl
