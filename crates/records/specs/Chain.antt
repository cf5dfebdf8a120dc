-- The chain of a circuit file: where it leads, and where it is turned away, in the paper's order.
use Rattle.std.specs.Prelude.{ℕ, zero, suc, ◌+◌, ◌*◌, ◌-◌, ◌/◌, ◌%◌, List, [], ◌∷◌, ◌++◌, Bool, true, false, ◌&&◌, ◌||◌, not, cond, length, get_or, take, drop, replicate, eqb, leb, ltb, Option, Some, None, Result, Ok, Err}
use Rattle.refusal.specs.declared.Refusal.{Refusal}
use Rattle.records.specs.declared.record_chain.Chain.{Chain}
use Rattle.records.specs.declared.Form.{Form}
use Rattle.records.specs.Record.{record_at, kind_of, next_of, all_zero, fits}

-- the file's length is a multiple of the record size, and 2 to 64 records
abbrev pub length_good : Form → List ℕ → Bool
length_good o f =
    eqb (length f % o.size) 0 && (leb (2 * o.size) (length f) && leb (length f) (64 * o.size))

abbrev pub record_count : Form → List ℕ → ℕ
record_count o f = length f / o.size

abbrev pub km_of : List ℕ → ℕ
km_of r = get_or r 4 0

abbrev pub shape_of : List ℕ → ℕ
shape_of r = get_or r 5 0

-- record 0: its kind, km 1 to 5, shape 0 or 1; bytes 6 and 7 and those from 24 on are zero
unfoldable pub head_good : Form → List ℕ → Bool
head_good o r =
    eqb (kind_of r) o.first
    && (leb 1 (km_of r)
    && (leb (km_of r) 5
    && (leb (shape_of r) 1
    && (all_zero (take 2 (drop 6 r)) && all_zero (drop 24 r)))))

unfoldable pub member : ℕ → List ℕ → Bool
member n [] = false
member n (m ∷ ms) = eqb n m || member n ms

-- a step ends the chain, leads to a record, or astray
abbrev pub step_by : Bool → Bool → ℕ → Result (Option ℕ) Refusal
step_by true fresh n = Ok None
step_by false true n = Ok (Some n)
step_by false false n = Err Refusal.ChainStep

-- the step out of record `at`, after the records of `order`
unfoldable pub step_of : Form → List ℕ → List ℕ → ℕ → Result (Option ℕ) Refusal
step_of o f order at =
    let next = next_of (record_at o f at) in
    step_by (eqb next 0) (ltb next (record_count o f) && not (member next order)) next

-- the index of the next record, for every case of a step: index 0 ends the chain, and stands for a refusal too
abbrev pub step_index : Result (Option ℕ) Refusal → ℕ
step_index (Ok None) = 0
step_index (Ok (Some n)) = n
step_index (Err r) = 0

abbrev pub padded : ℕ → List ℕ → List ℕ
padded n l = l ++ replicate (n - length l) 0

abbrev pub chain_along : List ℕ → Chain
chain_along order = record { order = padded 64 order; count = length order }

abbrev pub answered_chain : List ℕ → Result Chain Refusal
answered_chain order = Ok (chain_along order)

-- the records and their count, for every case: none at a refusal
abbrev pub order_in : Result Chain Refusal → List ℕ
order_in (Ok c) = c.order
order_in (Err r) = replicate 64 0

abbrev pub count_in : Result Chain Refusal → ℕ
count_in (Ok c) = c.count
count_in (Err r) = 0

-- a chain that ends where `left` more records were allowed: all 48 of kind 3 are left, or none is
abbrev pub ended : ℕ → Result Chain Refusal → Result Chain Refusal
ended left c = cond (eqb left 48 || eqb left 0) c (Err Refusal.ChainRecord)

abbrev pub by_step : Result (Option ℕ) Refusal → Result Chain Refusal → (ℕ → Result Chain Refusal) → Result Chain Refusal
by_step (Ok None) e on = e
by_step (Ok (Some n)) e on = on n
by_step (Err r) e on = Err r

-- The record that `left` more may follow: a point while all 48 of kind 3 are left, else one of these.
abbrev pub sound_by : Form → Bool → List ℕ → Bool
sound_by o true r = fits 2 (15 + o.extra) r
sound_by o false r = fits 3 12 r

-- The chain from record `at` on, after the records of `order`, of which it is the last; `left` more may follow.
unfoldable pub walk : Form → List ℕ → ℕ → List ℕ → ℕ → Result Chain Refusal
walk o f zero order at = by_step (step_of o f order at) (ended zero (answered_chain order)) (λ n. Err Refusal.ChainRecord)
walk o f (suc left) order at =
    by_step (step_of o f order at) (ended (suc left) (answered_chain order))
    (λ n.
    cond (sound_by o (leb 48 left) (record_at o f n)) (walk o f left (order ++ (n ∷ [])) n)
    (Err Refusal.ChainRecord))

unfoldable pub chain_of : Form → List ℕ → Result Chain Refusal
chain_of o f =
    let head = record_at o f 0 in
    cond (length_good o f)
    (cond (head_good o head) (walk o f (km_of head + 48) (0 ∷ []) 0) (Err Refusal.RecordZero))
    (Err Refusal.Length)
