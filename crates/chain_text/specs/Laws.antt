-- "Records off the chain are ignored", also where the files are not of one length: what follows the records of an accepted file changes neither what is read nor what `chain` prints. And the writer's order: km and shape (2), then the room lent (1).
use Rattle.std.specs.Prelude.{true, false, List, ◌++◌, ◌≡◌, ℕ, ◌≤◌, leb, length, Err, IsOk}
use Rattle.refusal.specs.declared.Refusal.{Refusal}
use Rattle.records.specs.declared.Form.{Form}
use Rattle.records.specs.Record.{Fit, form64, record_at}
use Rattle.records.specs.Chain.{length_good, record_count, chain_of}
use Rattle.circuit.specs.declared.Circuit.{Circuit}
use Rattle.circuit.specs.Read.{read_of, beside_of}
use Rattle.circuit.specs.Written.{size_of, good_of, write_answer_of}
use Rattle.circuit.specs.OnChain.{OnChain}
use Rattle.chain_text.specs.ChainText.{chain_text}

-- g has the bytes of f in each record that f's chain reaches
abbrev pub AlikeOnChain : Form → List ℕ → List ℕ → Type 0
AlikeOnChain o f g = (n : ℕ) → OnChain o f n → record_at o f n ≡ record_at o g n

-- the chain, the circuit and the words beside it
abbrev pub ReadAlike : Form → List ℕ → List ℕ → Type 0
ReadAlike o f g = (chain_of o f ≡ chain_of o g) × (read_of o f ≡ read_of o g) × (beside_of o f ≡ beside_of o g)

-- what `longer-file` says: so is an accepted file read in any file that has as many records or more
abbrev pub LongerFile : Type 0
LongerFile =
    (o : Form) (f g : List ℕ) → IsOk (chain_of o f) → length_good o g ≡ true → record_count o f ≤ record_count o g → AlikeOnChain o f g
    → ReadAlike o f g

-- what `records-appended` says: whatever the bytes are that follow, as long as the whole has a file's length
abbrev pub RecordsAppended : Type 0
RecordsAppended = (o : Form) → Fit o → (f more : List ℕ) → IsOk (chain_of o f) → length_good o (f ++ more) ≡ true → ReadAlike o f (f ++ more)

-- what `printed-alike` and `printed-appended` say, of the paper's form: the text of `chain` is the same, a refusal's too
abbrev pub PrintedAlike : Type 0
PrintedAlike = (f g : List ℕ) → length f ≡ length g → AlikeOnChain form64 f g → chain_text f ≡ chain_text g

abbrev pub PrintedAppended : Type 0
PrintedAppended = (f more : List ℕ) → IsOk (chain_of form64 f) → length_good form64 (f ++ more) ≡ true → chain_text f ≡ chain_text (f ++ more)

-- what `writer-order` says: a wrong km or shape is 2 whatever the room is, and only a circuit that has neither is refused for its room
abbrev pub WriterOrder : Type 0
WriterOrder =
    (o : Form) (c : Circuit) (out : List ℕ)
    → (good_of c ≡ false → write_answer_of o c out ≡ Err Refusal.RecordZero)
    × (good_of c ≡ true → leb (size_of o c) (length out) ≡ false → write_answer_of o c out ≡ Err Refusal.Length)
