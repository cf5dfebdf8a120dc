-- A number in decimals: the size by its exact value to the nearest unit of the last place, an exact half to the even digit, with a minus where the number is below zero and a digit of the text is not 0. In a field of a given width it stands at the right, and stars stand for one that takes more.
use Rattle.std.specs.Prelude.{ℕ, zero, suc, ◌*◌, ◌/◌, ◌^◌, ◌≡◌, Bool, true, false, List, ◌++◌, length, Float}
use Rattle.std.specs.Float.{nan, inf, fin}
use Rattle.std.specs.Float.Ieee.{up, down}
use Rattle.io.specs.Digits.{last_digits}
use Rattle.lines.specs.Text.{decimal_of}
use Rattle.figures.specs.Nearest.{nearest}
use Rattle.lines.specs.Ascii.{ascii}
use Rattle.lines.specs.Aligned.{right}
use Rattle.figures.specs.declared.decimal_text.NumberKind.{NumberKind}

-- n units of the last of so many places: the whole part, the point, and n's last digits, zeros in front too
unfoldable pub placed_text : ℕ → ℕ → List ℕ
placed_text places n = decimal_of (n / 10 ^ places) ++ (ascii "." ++ last_digits 10 places n)

-- with its sign: true is minus, and no unit has none
unfoldable pub signed_text : Bool → ℕ → ℕ → List ℕ
signed_text false places n = placed_text places n
signed_text true places zero = placed_text places zero
signed_text true places (suc n) = ascii "-" ++ placed_text places (suc n)

-- the size of `fin s m e` is m * 2 ^ e, which is m * up e / down e
unfoldable pub written_of : ℕ → Float → List ℕ
written_of places nan = ascii "NaN"
written_of places (inf false) = ascii "inf"
written_of places (inf true) = ascii "-inf"
written_of places (fin s m e) = signed_text s places (nearest (10 ^ places * m * up e) (down e))

unfoldable pub number_text : ℕ → ℕ → Float → List ℕ
number_text width places v = right width (written_of places v)

-- what `number-width` says: every field has its width, whatever the number is
abbrev pub NumberWidth : Type 0
NumberWidth = (width places : ℕ) (v : Float) → length (number_text width places v) ≡ width

-- what a number is, beside its size
abbrev pub finite_kind : Bool → NumberKind
finite_kind false = NumberKind.Plus
finite_kind true = NumberKind.Minus

abbrev pub infinite_kind : Bool → NumberKind
infinite_kind false = NumberKind.Infinity
infinite_kind true = NumberKind.MinusInfinity

unfoldable pub number_kind_of : Float → NumberKind
number_kind_of nan = NumberKind.NotANumber
number_kind_of (inf s) = infinite_kind s
number_kind_of (fin s m e) = finite_kind s
