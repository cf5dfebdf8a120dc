-- The programs' text as lists of bytes, and what it is to put a text on a page.
use Rattle.std.specs.Prelude.{ℕ, zero, suc, ◌-◌, ◌/◌, ◌%◌, Bool, true, false, List, [], ◌∷◌, ◌++◌, take, ltb, length}
use Rattle.io.specs.Digits.{hex_digit_ascii, last_digits}
use Rattle.refusal.specs.declared.Refusal.{Refusal}
use Rattle.refusal.specs.Number.{number_of}

-- ASCII's space and line feed
abbrev pub space : ℕ
space = 32

abbrev pub line_feed : ℕ
line_feed = 10

-- nothing stands before the last digit of a number below ten
abbrev pub tens_by : Bool → List ℕ → List ℕ
tens_by true tens = []
tens_by false tens = tens

-- n's last `places` decimal digits, and no zero in front: the digits of n / 10 stand before the last one, where there are any
unfoldable pub decimal_in : ℕ → ℕ → List ℕ
decimal_in zero n = []
decimal_in (suc places) n = tens_by (ltb n 10) (decimal_in places (n / 10)) ++ (hex_digit_ascii (n % 10) ∷ [])

-- a number below 2 ^ 64 in decimal digits
unfoldable pub decimal_of : ℕ → List ℕ
decimal_of n = decimal_in 20 n

-- the eight lower-case hexadecimal digits of a number below 2 ^ 32
unfoldable pub hex_of : ℕ → List ℕ
hex_of n = last_digits 16 8 n

-- a field after another: one space, then the number
unfoldable pub field_of : ℕ → List ℕ
field_of n = space ∷ decimal_of n

-- `refused ` in ASCII
abbrev pub refused_word : List ℕ
refused_word = 114 ∷ 101 ∷ 102 ∷ 117 ∷ 115 ∷ 101 ∷ 100 ∷ space ∷ []

-- all that a program prints where it turns a file away
unfoldable pub refused_text : Refusal → List ℕ
refused_text r = refused_word ++ (decimal_of (number_of r) ++ (line_feed ∷ []))

-- the first n of many texts, one after the other
unfoldable pub joined : (ℕ → List ℕ) → ℕ → List ℕ
joined text zero = []
joined text (suc n) = joined text n ++ text n

-- what stands on a page of n bytes where a text is put after what stood there: as much of it as there is room for
unfoldable pub with_text : ℕ → List ℕ → List ℕ → List ℕ
with_text n page text = page ++ take (n - length page) text
