-- The writer's files are in the writer's form: each entry is made of bytes, the chain is 0, 1, 2, .., and the deciles are
-- written only where one is not +0. So `Written-Read` speaks of every file that the writer wrote.
use Prim.Native.Nat.{ℕ, zero, suc, ◌+◌, ◌*◌, ◌-◌, ◌≤◌, ◌<◌}
use mathlib.Core.Path.{◌≡◌, refl}
use mathlib.Core.List.{List, [], ◌∷◌, ◌++◌}
use mathlib.Core.Bool.{Bool, true, false}
use native.Mathlib.Omega.{arith}
use lib.ListN.{length, take, replicate}
use lib.Seq.{take_at}
use lib.Dec.{eqb, leb}
use Rattle.std.specs.Prelude.{Ok}
use Rattle.circuit.specs.declared.Circuit.{Circuit}
use Rattle.records.specs.declared.Form.{Form}
use Rattle.records.specs.Record.{Fit, all_zero}
use Rattle.records.specs.Chain.{record_count, order_in, count_in, chain_of}
use Rattle.circuit.specs.Read.{read_of}
use Rattle.circuit.specs.Bytes.{half_of, word_bytes, bytes_of, head_of, record_of}
use Rattle.circuit.specs.Written.{point_at, extra_at, twelve_at, decile_records, records_of, next_in, entry_by, entry_of, entries_of, file_of}
use Rattle.circuit.specs.Forms.{Each, Whole, Beside, held_circuit, InForm, indices_below}
use Rattle.circuit.specs.Laws.{EveryForm, WrittenInForm}
use Rattle.circuit.proofs.circuit_laws.ReadWritten.{each_append, count-file, chain-file, read-file, in-range, written-file}

pub each-zero : (n k : ℕ) → 0 < n → Each n (replicate k 0)
each-zero n zero h = tt
each-zero n (suc k) h = (h, each-zero n k h)

half-bytes : (n : ℕ) → Each 256 (half_of n)
half-bytes n = (omega arith, (omega arith, tt))

word-bytes : (w : ℕ) → Each 256 (word_bytes w)
word-bytes w = (omega arith, (omega arith, (omega arith, (omega arith, tt))))

words-bytes : (ws : List ℕ) → Each 256 (bytes_of ws)
unfolding bytes_of
words-bytes [] = tt
words-bytes (w ∷ ws) = each_append 256 (word_bytes w) (bytes_of ws) (word-bytes w) (words-bytes ws)

record-bytes : (size kind next : ℕ) (words : List ℕ) → Each 256 (record_of size kind next words)
unfolding record_of
record-bytes size kind next words =
    let rest : List ℕ = replicate (size - (4 + 4 * length words)) 0 in
    each_append 256 (half_of kind) (half_of next ++ (bytes_of words ++ rest)) (half-bytes kind)
    (each_append 256 (half_of next) (bytes_of words ++ rest) (half-bytes next)
    (each_append 256 (bytes_of words) rest (words-bytes words) (each-zero 256 (size - (4 + 4 * length words)) (omega arith))))

module _ (o : Form) (fit : Fit o) (c : Circuit) (beside : List ℕ) (w : Whole c) (x : Beside o beside) (some : 1 ≤ c.km)
    (most : c.km ≤ 5) (form : c.shape ≤ 1)
  where
    head_bytes : (next : ℕ) → Each 256 (head_of o c next)
    unfolding head_of
    head_bytes next =
        let numbers : List ℕ = c.gcd ∷ c.gcdkm ∷ c.amind ∷ c.ssn ∷ [] in
        let rest : List ℕ = replicate (o.size - 24) 0 in
        let four : List ℕ = c.km ∷ c.shape ∷ 0 ∷ 0 ∷ [] in
        each_append 256 (half_of o.first) (half_of next ++ (four ++ (bytes_of numbers ++ rest))) (half-bytes o.first)
        (each_append 256 (half_of next) (four ++ (bytes_of numbers ++ rest)) (half-bytes next)
        (each_append 256 four (bytes_of numbers ++ rest) (omega arith, (omega arith, (omega arith, (omega arith, tt))))
        (each_append 256 (bytes_of numbers) rest (words-bytes numbers) (each-zero 256 (o.size - 24) (omega arith)))))

    entry-bytes : (first point : Bool) (n i : ℕ) → Each 256 (entry_by first point o c beside n i)
    entry-bytes true point n i = head_bytes (next_in n i)
    entry-bytes false true n i = record-bytes o.size 2 (next_in n i) (point_at c (i - 1) ++ extra_at o beside (i - 1))
    entry-bytes false false n i = record-bytes o.size 3 (next_in n i) (twelve_at c (i - (c.km + 1)))

    entries-bytes : (n k : ℕ) → Each 256 (entries_of o c beside n k)
    unfolding entries_of entry_of
    entries-bytes n zero = tt
    entries-bytes n (suc k) =
        each_append 256 (entries_of o c beside n k) (entry_of o c beside n k) (entries-bytes n k) (entry-bytes (eqb k 0) (leb k c.km) n k)

    file-bytes : Each 256 (file_of o c beside)
    unfolding file_of
    file-bytes = entries-bytes (records_of c) (records_of c)

    read_is : read_of o (file_of o c beside) ≡ Ok (held_circuit c)
    read_is = read-file o fit c beside w x some most form

    records-are : record_count o (file_of o c beside) ≡ records_of c
    records-are = count-file o fit c beside w x some most form

    order_is : take (count_in (chain_of o (file_of o c beside))) (order_in (chain_of o (file_of o c beside))) ≡ indices_below (record_count o (file_of o c beside))
    order_is =
        let n = records_of c in
        rw (chain-file o fit c beside w x some most form, records-are)
        (take_at (indices_below n) (replicate (64 - length (indices_below n)) 0) (length (indices_below n)) refl)

    written-deciles : (b : Bool) → all_zero c.deciles ≡ b → c.km + 1 < 1 + c.km + decile_records b → b ≡ false
    written-deciles true e h = absurd (omega arith)
    written-deciles false e h = refl

    pub file-in-form : InForm o (file_of o c beside)
    unfolding held_circuit
    file-in-form =
        record {
          bytes = file-bytes;
          read = rw read_is refl;
          order = order_is;
          deciles = λ h. rw read_is (written-deciles (all_zero c.deciles) refl (rw (read_is, records-are) at h));
        }

pub written-in-form : EveryForm WrittenInForm
written-in-form o fit c beside out n w x e =
    let t = in-range o fit c out n e in
    rw (written-file o fit c out n e beside) (file-in-form o fit c beside w x t.0 t.1 t.2)
