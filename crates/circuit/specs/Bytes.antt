-- The bytes of one record of a circuit file (the paper, "Circuit file").
use Rattle.std.specs.Prelude.{ℕ, ◌+◌, ◌*◌, ◌-◌, ◌/◌, ◌%◌, List, [], ◌∷◌, ◌++◌, length, replicate}
use Rattle.circuit.specs.declared.Circuit.{Circuit}
use Rattle.records.specs.declared.Form.{Form}

-- two and four bytes of a number, least significant first
abbrev pub half_of : ℕ → List ℕ
half_of n = n % 256 ∷ n / 256 % 256 ∷ []

abbrev pub word_bytes : ℕ → List ℕ
word_bytes w = w % 256 ∷ w / 256 % 256 ∷ w / 0x1_0000 % 256 ∷ w / 0x100_0000 % 256 ∷ []

unfoldable pub bytes_of : List ℕ → List ℕ
bytes_of [] = []
bytes_of (w ∷ ws) = word_bytes w ++ bytes_of ws

-- a record of so many bytes: its kind, the index of the next, its words from byte 4 on, zeros
unfoldable pub record_of : ℕ → ℕ → ℕ → List ℕ → List ℕ
record_of size kind next words =
    half_of kind ++ (half_of next ++ (bytes_of words ++ replicate (size - (4 + 4 * length words)) 0))

-- record 0: km and shape in a byte each, two zero bytes, the four numbers from byte 8 on, zeros
unfoldable pub head_of : Form → Circuit → ℕ → List ℕ
head_of o c next =
    half_of o.first
    ++ (half_of next
    ++ (c.km ∷ c.shape ∷ 0 ∷ 0 ∷ []
    ++ (bytes_of (c.gcd ∷ c.gcdkm ∷ c.amind ∷ c.ssn ∷ []) ++ replicate (o.size - 24) 0)))
