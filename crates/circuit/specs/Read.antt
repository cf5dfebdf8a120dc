-- The circuit that a file holds, or where the file is turned away.
use Rattle.std.specs.Prelude.{ℕ, zero, suc, ◌+◌, ◌*◌, ◌-◌, List, [], ◌++◌, get_or, drop, length, replicate, Result, Ok, Err, ◌≤◌, ◌<◌, ◌≡◌}
use Rattle.std.specs.Borrow.{Bor}
use Rattle.refusal.specs.declared.Refusal.{Refusal}
use Rattle.records.specs.declared.record_chain.Chain.{Chain}
use Rattle.circuit.specs.declared.Circuit.{Circuit}
use Rattle.records.specs.declared.Form.{Form}
use Rattle.records.specs.Record.{record_at, word_at, record_words}
use Rattle.records.specs.Chain.{chain_of, km_of, shape_of, padded}

-- of n records of the chain, from place `from` on, so many words each, those after the first `skip`
unfoldable pub numbers_of : Form → List ℕ → List ℕ → ℕ → ℕ → ℕ → ℕ → List ℕ
numbers_of o f order from skip words zero = []
numbers_of o f order from skip words (suc n) =
    numbers_of o f order from skip words n
    ++ drop skip (record_words (record_at o f (get_or order (from + n) 0)) (skip + words))

-- What a function that finds records does, by what its calls ask and what they answer: it gives each record that is in a file
-- as the part of the file that is its own.
abbrev pub Parts : (Bor (List ℕ) → ℕ → Type 0) → (Bor (List ℕ) → ℕ → Bor (List ℕ) → Type 0) → Form → Type 0
Parts pre post o =
    (f : Bor (List ℕ)) (n : ℕ) → o.size * n + o.size ≤ length f.now
    → pre f n × ((r : Bor (List ℕ)) → post f n r → r.now ≡ record_at o f.now n)

-- such a function, and a list of records that are in the file and have so many words
pub record RecordsFound (pre : Bor (List ℕ) → ℕ → Type 0) (post : Bor (List ℕ) → ℕ → Bor (List ℕ) → Type 0) (o : Form) (f records : List ℕ) (words : ℕ) : Type 0 where
  pub room : 4 + 4 * words ≤ o.size
  pub there : (i : ℕ) → i < length records → o.size * get_or records i 0 + o.size ≤ length f
  pub parts : Parts pre post o

-- the numbers of record 0, with the words of the points and the deciles
abbrev pub circuit_by : List ℕ → List ℕ → List ℕ → Circuit
circuit_by head points deciles =
    record {
      km = km_of head;
      shape = shape_of head;
      gcd = word_at head 8;
      gcdkm = word_at head 12;
      amind = word_at head 16;
      ssn = word_at head 20;
      points = points;
      deciles = deciles;
    }

-- Record 0, then the points, then what the chain has of kind 3: where it has none, all 576 deciles are zero.
unfoldable pub circuit_of : Form → List ℕ → Chain → Circuit
circuit_of o f c =
    let head = record_at o f 0 in
    let km = km_of head in
    circuit_by head (padded 75 (numbers_of o f c.order 1 0 15 km))
    (padded 576 (numbers_of o f c.order (1 + km) 0 12 (c.count - (1 + km))))

unfoldable pub no_circuit : Circuit
no_circuit =
    record {
      km = 0;
      shape = 0;
      gcd = 0;
      gcdkm = 0;
      amind = 0;
      ssn = 0;
      points = replicate 75 0;
      deciles = replicate 576 0;
    }

abbrev pub read_by : Result Chain Refusal → (Chain → Circuit) → Result Circuit Refusal
read_by (Ok c) circuit = Ok (circuit c)
read_by (Err r) circuit = Err r

unfoldable pub read_of : Form → List ℕ → Result Circuit Refusal
read_of o f = read_by (chain_of o f) (circuit_of o f)

-- the circuit, for every case of the answer: at a refusal every number is zero
abbrev pub circuit_in : Result Circuit Refusal → Circuit
circuit_in (Ok c) = c
circuit_in (Err r) = no_circuit

-- What a file holds beside its circuit: the words that the form adds to its km points, then zeros, room for five points in
-- all; beside a refusal all are zero. In the paper's form it is empty.
abbrev pub beside_by : Form → Result Chain Refusal → (Chain → List ℕ) → List ℕ
beside_by o (Ok c) added = padded (5 * o.extra) (added c)
beside_by o (Err r) added = replicate (5 * o.extra) 0

unfoldable pub beside_of : Form → List ℕ → List ℕ
beside_of o f = beside_by o (chain_of o f) (λ c. numbers_of o f c.order 1 15 o.extra (km_of (record_at o f 0)))
