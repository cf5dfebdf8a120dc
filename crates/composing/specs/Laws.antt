-- A text without a wrong line has a circuit that the writer takes, so that `compose` prints its file; the reader reads that
-- circuit back from it.
use Rattle.std.specs.Prelude.{ℕ, ◌≤◌, ◌≡◌, List, [], length, take, Ok}
use Rattle.records.specs.Record.{form64}
use Rattle.circuit.specs.declared.Circuit.{Circuit}
use Rattle.circuit.specs.Read.{read_of}
use Rattle.circuit.specs.Written.{size_of, write_answer_of, left_of}
use Rattle.composing.specs.Draft.{composed_of}
use Rattle.composing.specs.Composing.{longest, composed_text}

-- of every text without a wrong line, and cells lent with room for the longest file: 54 records of 64 bytes, one of the path, five
-- of points, 48 of deciles
abbrev pub OfRightText : (Circuit → List ℕ → Type 0) → Type 0
OfRightText P = (text out : List ℕ) (c : Circuit) → composed_of text ≡ Ok c → 3456 ≤ length out → P c out

abbrev pub TextWritten : Type 0
TextWritten = OfRightText (λ c out. write_answer_of form64 c out ≡ Ok (size_of form64 c))

-- word for word, every number by its bits
abbrev pub TextReadBack : Type 0
TextReadBack = OfRightText (λ c out. read_of form64 (take (size_of form64 c) (left_of form64 c [] out)) ≡ Ok c)

-- and what `compose` prints of a text that is not too long is that file
abbrev pub TextPrinted : Type 0
TextPrinted =
    (text out : List ℕ) (c : Circuit) → length text ≤ longest → 3456 ≤ length out → composed_of text ≡ Ok c
    → composed_text text ≡ take (size_of form64 c) (left_of form64 c [] out)
