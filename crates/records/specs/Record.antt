-- A record of a circuit file, and the numbers in it, least significant byte first (the paper, "Circuit file").
use Rattle.std.specs.Prelude.{ℕ, zero, suc, ◌+◌, ◌*◌, ◌≤◌, ◌<◌, List, [], ◌∷◌, ◌++◌, Bool, true, ◌&&◌, get_or, take, drop, eqb}
use Rattle.records.specs.declared.Form.{Form}

-- the paper's form
abbrev pub form64 : Form
form64 = record { size = 64; first = 1; extra = 0 }

-- What the reader and the writer ask of a form: a record has room for the words of a point, and its size and the kind of
-- record 0 are numbers of two bytes.
abbrev pub Fit : Form → Type 0
Fit o = (64 + 4 * o.extra ≤ o.size) × (o.size < 0x1_0000) × (o.first < 0x1_0000)

-- the bytes of record n
abbrev pub record_at : Form → List ℕ → ℕ → List ℕ
record_at o f n = take o.size (drop (o.size * n) f)

-- the two, and the four, bytes from `at` as a number
unfoldable pub half_at : List ℕ → ℕ → ℕ
half_at r at = get_or r at 0 + 256 * get_or r (at + 1) 0

unfoldable pub word_at : List ℕ → ℕ → ℕ
word_at r at =
    get_or r at 0 + 256 * get_or r (at + 1) 0 + 0x1_0000 * get_or r (at + 2) 0 + 0x100_0000 * get_or r (at + 3) 0

abbrev pub kind_of : List ℕ → ℕ
kind_of r = half_at r 0

abbrev pub next_of : List ℕ → ℕ
next_of r = half_at r 2

-- the first n words from byte 4 on
unfoldable pub record_words : List ℕ → ℕ → List ℕ
record_words r zero = []
record_words r (suc n) = record_words r n ++ (word_at r (4 + 4 * n) ∷ [])

unfoldable pub all_zero : List ℕ → Bool
all_zero [] = true
all_zero (b ∷ bs) = eqb b 0 && all_zero bs

-- of this kind, and zero after so many words
unfoldable pub fits : ℕ → ℕ → List ℕ → Bool
fits kind words r = eqb (kind_of r) kind && all_zero (drop (4 + 4 * words) r)
