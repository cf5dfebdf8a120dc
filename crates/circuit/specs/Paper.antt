-- The laws at the paper's form, which adds no words to a point: what holds of `read` and `write`.
use Rattle.std.specs.Prelude.{ℕ, ◌*◌, ◌-◌, ◌≤◌, ◌≡◌, List, [], length, take, drop, replicate, Ok}
use Rattle.circuit.specs.declared.Circuit.{Circuit}
use Rattle.records.specs.Record.{form64}
use Rattle.circuit.specs.Read.{read_of, circuit_in}
use Rattle.circuit.specs.Written.{records_of, file_of, write_answer_of, left_of}
use Rattle.circuit.specs.Forms.{Whole, held_circuit, InForm}

-- of every circuit that the writer takes, and the n bytes that it says it wrote
abbrev pub OfPaper : (Circuit → List ℕ → Type 0) → Type 0
OfPaper P =
    (c : Circuit) (out : List ℕ) (n : ℕ) → Whole c → write_answer_of form64 c out ≡ Ok n
    → P c (take n (left_of form64 c [] out))

pub record PaperLaws : Type 0 where
  -- a written circuit is the one read back
  pub read-written : OfPaper (λ c f. read_of form64 f ≡ Ok (held_circuit c))
  pub read_same :
      OfPaper
      (λ c f.
      drop (15 * c.km) c.points ≡ replicate (75 - 15 * c.km) 0
      → read_of form64 f ≡ Ok c)
  pub written-length : (c : Circuit) (out : List ℕ) (n : ℕ) → write_answer_of form64 c out ≡ Ok n
      → n ≡ 64 * records_of c
  pub written-in-form : OfPaper (λ c f. InForm form64 f)
  -- a file in the writer's form, read and written again, has its own bytes
  pub file-again : (f : List ℕ) → InForm form64 f → file_of form64 (circuit_in (read_of form64 f)) [] ≡ f
  pub answer-again : (f out : List ℕ) → InForm form64 f → length f ≤ length out
      → write_answer_of form64 (circuit_in (read_of form64 f)) out ≡ Ok (length f)
  pub bytes-again : (f out : List ℕ) → InForm form64 f → length f ≤ length out
      → take (length f) (left_of form64 (circuit_in (read_of form64 f)) [] out) ≡ f
