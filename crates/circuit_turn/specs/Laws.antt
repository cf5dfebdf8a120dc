-- What holds of the two programs, for all lists of bytes.
use Rattle.std.specs.Prelude.{ℕ, ◌+◌, ◌≤◌, ◌<◌, ◌≡◌, List, [], true, ◌⊎◌, length, get_or, replicate, Ok, Err, IsOk}
use Rattle.refusal.specs.declared.Refusal.{Refusal}
use Rattle.refusal.specs.Number.{number_of}
use Rattle.lines.specs.Text.{refused_text}
use Rattle.records.specs.Record.{form64, record_at, word_at, all_zero}
use Rattle.records.specs.Chain.{order_in, chain_of, km_of}
use Rattle.circuit.specs.Read.{read_of, circuit_in}
use Rattle.circuit.specs.Written.{file_of}
use Rattle.circuit.specs.Forms.{Each, InForm}
use Rattle.circuit.specs.Wide.{form128, wide_of, wide_in}
use Rattle.circuit_turn.specs.Turn.{back_of, widened, narrowed}

-- files of bytes that `widen` and `narrow` turn
pub record Widens (f : List ℕ) : Type 0 where
  pub bytes : Each 256 f
  pub answered : IsOk (read_of form64 f)

pub record Narrows (f : List ℕ) : Type 0 where
  pub bytes : Each 256 f
  pub answered : IsOk (back_of (wide_of f))

-- F2M3 of point i of the chain, counted from 0, by its bits
abbrev pub f2m3_at : List ℕ → ℕ → ℕ
f2m3_at f i = word_at (record_at form128 f (get_or (order_in (chain_of form128 f)) (1 + i) 0)) 64

-- the whole chain was read, and a point of it has F2M3 bits that are not zero (80000000, minus zero, is not)
pub record Carries (f : List ℕ) : Type 0 where
  pub read : IsOk (chain_of form128 f)
  pub point : ℕ
  pub there : point < km_of (record_at form128 f 0)
  pub some : f2m3_at f point ≡ 0 → ⊥

pub record TurnLaws : Type 0 where
  -- an old file in the writer's form comes back byte for byte, and so does a new one whose F2M3 are all +0
  pub narrow-widened : (f : List ℕ) → InForm form64 f → narrowed (widened f) ≡ f
  pub widen-narrowed : (f : List ℕ) → InForm form128 f → all_zero (wide_in (wide_of f)).f2m3 ≡ true → widened (narrowed f) ≡ f
  -- of every file that is turned the circuit is kept, number for number by its bits
  pub widen_keeps : (f : List ℕ) → Widens f
      → wide_of (widened f)
      ≡ Ok (record { circuit = circuit_in (read_of form64 f); f2m3 = replicate 5 0 })
  pub narrow_keeps : (f : List ℕ) → Narrows f
      → read_of form64 (narrowed f) ≡ Ok (wide_in (wide_of f)).circuit
  -- what is written is in the writer's form: in chain order, nothing off the chain, no deciles that are all +0
  pub widened-in-form : (f : List ℕ) → Widens f → InForm form128 (widened f)
  pub narrowed-in-form : (f : List ℕ) → Narrows f → InForm form64 (narrowed f)
  -- there and back, any old file is the writer's file of its circuit
  pub narrow-widened-any : (f : List ℕ) → Widens f → narrowed (widened f) ≡ file_of form64 (circuit_in (read_of form64 f)) []
  -- 14 where a point carries F2M3, and nowhere else
  pub fourteen : (f : List ℕ) → Carries f → narrowed f ≡ refused_text Refusal.F2m3
  pub only-fourteen : (f : List ℕ) → back_of (wide_of f) ≡ Err Refusal.F2m3 → Carries f
  -- every other refusal is the chain's, 1 to 4
  pub widen-refuses : (f : List ℕ) (r : Refusal) → read_of form64 f ≡ Err r → number_of r ≤ 4
  pub narrow-refuses : (f : List ℕ) (r : Refusal) → back_of (wide_of f) ≡ Err r
      → (number_of r ≤ 4) ⊎ (r ≡ Refusal.F2m3)
  pub chain_first : (f : List ℕ) (r : Refusal) → chain_of form128 f ≡ Err r
      → narrowed f ≡ refused_text r
  -- every new file that is read is refused by the old reader: with 2, or with 1 for its length
  pub old-refuses : (f : List ℕ) → IsOk (wide_of f) → length f ≤ 4096
      → read_of form64 f ≡ Err Refusal.RecordZero
  pub old-refuses-long : (f : List ℕ) → IsOk (wide_of f) → 4096 < length f
      → read_of form64 f ≡ Err Refusal.Length
