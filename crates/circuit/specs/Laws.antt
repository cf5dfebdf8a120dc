-- The laws of the circuit file, of every form that the reader and the writer take; `form64`, the paper's, is one of them. Of a
-- circuit c, the words beside it and the cells lent, `out`, the writer answers `write_answer_of o c out` and leaves
-- `left_of o c beside out`.
use Rattle.std.specs.Prelude.{ℕ, ◌*◌, ◌-◌, ◌≤◌, ◌≡◌, List, length, take, drop, replicate, Ok, IsOk}
use Rattle.circuit.specs.declared.Circuit.{Circuit}
use Rattle.records.specs.declared.Form.{Form}
use Rattle.records.specs.Record.{Fit, record_at}
use Rattle.circuit.specs.Read.{read_of, circuit_in, beside_of}
use Rattle.circuit.specs.Written.{records_of, file_of, write_answer_of, left_of}
use Rattle.circuit.specs.Forms.{Each, Whole, Beside, held_circuit, held_beside, InForm}
use Rattle.circuit.specs.OnChain.{OnChain}

-- of every form that is fit
abbrev pub EveryForm : (Form → Type 0) → Type 0
EveryForm P = (o : Form) → Fit o → P o

-- of every circuit that the writer takes, whatever stands in the words past its km points, and the n bytes that it says it wrote
abbrev pub OfWritten : Form → (Circuit → List ℕ → List ℕ → ℕ → Type 0) → Type 0
OfWritten o P =
    (c : Circuit) (beside out : List ℕ) (n : ℕ) → Whole c → Beside o beside → write_answer_of o c out ≡ Ok n
    → P c beside out n

-- "A written circuit is the one read back", every number by its bits, and so are the words beside it.
pub record ReadBack (o : Form) (c : Circuit) (beside f : List ℕ) : Type 0 where
  pub answer : read_of o f ≡ Ok c
  pub words : beside_of o f ≡ beside

abbrev pub ReadWritten : Form → Type 0
ReadWritten o =
    OfWritten o (λ c beside out n. ReadBack o (held_circuit c) (held_beside o c beside) (take n (left_of o c beside out)))

-- So a circuit whose words past its km points are zero, as the reader leaves them, comes back word for word.
abbrev pub ReadSame : Form → Type 0
ReadSame o =
    OfWritten o
    (λ c beside out n.
    drop (15 * c.km) c.points ≡ replicate (75 - 15 * c.km) 0
    → drop (o.extra * c.km) beside ≡ replicate (5 * o.extra - o.extra * c.km) 0
    → ReadBack o c beside (take n (left_of o c beside out)))

-- a record's bytes for record 0, for each point, and for the 48 of kind 3 where they are written
abbrev pub WrittenLength : Form → Type 0
WrittenLength o =
    (c : Circuit) (out : List ℕ) (n : ℕ) → write_answer_of o c out ≡ Ok n → n ≡ o.size * records_of c

abbrev pub WrittenInForm : Form → Type 0
WrittenInForm o = OfWritten o (λ c beside out n. InForm o (take n (left_of o c beside out)))

-- "A file that is already in the writer's form, read and written again, has its own bytes": it is the file of what is read,
-- and the writer says and does so with any cells that have the room.
pub record Again (o : Form) (f : List ℕ) : Type 0 where
  pub file : file_of o (circuit_in (read_of o f)) (beside_of o f) ≡ f
  pub answer : (out : List ℕ) → length f ≤ length out
      → write_answer_of o (circuit_in (read_of o f)) out ≡ Ok (length f)
  pub bytes : (out : List ℕ) → length f ≤ length out
      → take (length f) (left_of o (circuit_in (read_of o f)) (beside_of o f) out) ≡ f

abbrev pub WrittenRead : Form → Type 0
WrittenRead o = (f : List ℕ) → InForm o f → Again o f

-- A circuit that is read from a file in one form and written in another is read back as it was, and so are the words that were
-- given to stand beside it.
abbrev pub Carried : Form → Form → Type 0
Carried o p =
    (f beside out : List ℕ) (n : ℕ) → Each 256 f → IsOk (read_of o f) → Beside p beside
    → write_answer_of p (circuit_in (read_of o f)) out ≡ Ok n
    → let c = circuit_in (read_of o f) in ReadBack p c (held_beside p c beside) (take n (left_of p c beside out))

-- "Records off the chain are ignored": files of one length that agree on each record that the first one's chain reaches have
-- the same answer, a refusal too, and the same words beside it.
abbrev pub OffChain : Type 0
OffChain =
    (o : Form) (f g : List ℕ) → length f ≡ length g
    → ((n : ℕ) → OnChain o f n → record_at o f n ≡ record_at o g n)
    → (read_of o f ≡ read_of o g) × (beside_of o f ≡ beside_of o g)
