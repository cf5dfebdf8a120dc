-- The laws of every form (`circuit_laws`) at the one that carries F2M3: what holds of `read` and `write`.
use Rattle.std.specs.Prelude.{ℕ, ◌*◌, ◌-◌, ◌≤◌, ◌≡◌, List, length, take, drop, replicate, Ok}
use Rattle.circuit.specs.declared.Circuit.{Circuit}
use Rattle.records.specs.Record.{record_at}
use Rattle.circuit.specs.Written.{records_of, file_of, write_answer_of, left_of}
use Rattle.circuit.specs.Forms.{Whole, Beside, held_circuit, held_beside, InForm}
use Rattle.circuit.specs.OnChain.{OnChain}
use Rattle.circuit.specs.Wide.{form128, wide_of, wide_in}

-- of every circuit that the writer takes with any five words for F2M3, and the n bytes that it says it wrote
abbrev pub OfWide : (Circuit → List ℕ → List ℕ → Type 0) → Type 0
OfWide P =
    (c : Circuit) (f2m3 out : List ℕ) (n : ℕ) → Whole c → Beside form128 f2m3 → write_answer_of form128 c out ≡ Ok n
    → P c f2m3 (take n (left_of form128 c f2m3 out))

pub record WideLaws : Type 0 where
  -- a written circuit is the one read back, bit for bit, F2M3 included; F2M3 past its km points, like the words of points past
  -- them, is read as zero
  pub read-written :
      OfWide
      (λ c f2m3 f.
      wide_of f ≡ Ok (record { circuit = held_circuit c; f2m3 = held_beside form128 c f2m3 }))
  pub read_same :
      OfWide
      (λ c f2m3 f.
      drop (15 * c.km) c.points ≡ replicate (75 - 15 * c.km) 0 → drop c.km f2m3 ≡ replicate (5 - c.km) 0
      → wide_of f ≡ Ok (record { circuit = c; f2m3 = f2m3 }))
  pub written-length : (c : Circuit) (out : List ℕ) (n : ℕ) → write_answer_of form128 c out ≡ Ok n
      → n ≡ 128 * records_of c
  pub written-in-form : OfWide (λ c f2m3 f. InForm form128 f)
  -- a file in the writer's form, read and written again, has its own bytes
  pub file-again : (f : List ℕ) → InForm form128 f → file_of form128 (wide_in (wide_of f)).circuit (wide_in (wide_of f)).f2m3 ≡ f
  pub answer-again : (f out : List ℕ) → InForm form128 f → length f ≤ length out
      → write_answer_of form128 (wide_in (wide_of f)).circuit out ≡ Ok (length f)
  pub bytes-again : (f out : List ℕ) → InForm form128 f → length f ≤ length out
      → take (length f) (left_of form128 (wide_in (wide_of f)).circuit (wide_in (wide_of f)).f2m3 out) ≡ f
  -- records off the chain are ignored
  pub off-chain : (f g : List ℕ) → length f ≡ length g
      → ((n : ℕ) → OnChain form128 f n → record_at form128 f n ≡ record_at form128 g n) → wide_of f ≡ wide_of g
