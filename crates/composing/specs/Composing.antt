-- What `compose` prints of a text: the file of its circuit, or the number of the first wrong line and what is wrong.
use Rattle.std.specs.Prelude.{ℕ, cond, List, [], ◌∷◌, ltb, length, Result, Ok, Err}
use Rattle.composing.specs.FaultText.{wrong_text}
use Rattle.records.specs.Record.{form64}
use Rattle.circuit.specs.Written.{file_of}
use Rattle.circuit.specs.declared.Circuit.{Circuit}
use Rattle.composing.specs.declared.compose_line.faults.Wrong.{Wrong}
use Rattle.composing.specs.Draft.{composed_of}

-- the longest text that is read
abbrev pub longest : ℕ
longest = 32768

-- `over 32768 bytes`
unfoldable pub long_text : List ℕ
long_text = 111 ∷ 118 ∷ 101 ∷ 114 ∷ 32 ∷ 51 ∷ 50 ∷ 55 ∷ 54 ∷ 56 ∷ 32 ∷ 98 ∷ 121 ∷ 116 ∷ 101 ∷ 115 ∷ 10 ∷ []

-- the circuit's file, or what is wrong
abbrev pub said_text : Result Circuit Wrong → List ℕ
said_text (Ok c) = file_of form64 c []
said_text (Err w) = wrong_text w

unfoldable pub composed_text : List ℕ → List ℕ
composed_text text = cond (ltb longest (length text)) long_text (said_text (composed_of text))
