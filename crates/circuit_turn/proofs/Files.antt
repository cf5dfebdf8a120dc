-- A circuit that was read is one that the writer takes, and its file has at most 54 records; in cells with that room
-- the writer writes all of it.
use Prim.Native.Nat.{ℕ, ◌*◌, ◌≤◌}
use mathlib.Core.Path.{◌≡◌, refl}
use mathlib.Core.List.{List, ◌++◌}
use mathlib.Core.Bool.{true, ◌&&◌}
use native.Mathlib.Omega.{arith}
use native.Mathlib.Nat.{mul-le-mul_left}
use lib.ListN.{length, take, drop, length-append}
use lib.Seq.{take-append_seam}
use lib.Dec.{leb}
use borrow.Author.Tests.{leb-true}
use Rattle.std.specs.Prelude.{Result, Ok, IsOk}
use Rattle.std.specs.Result.{result_unwrap_or}
use Rattle.refusal.specs.declared.Refusal.{Refusal}
use Rattle.circuit.specs.declared.Circuit.{Circuit}
use Rattle.records.specs.declared.Form.{Form}
use Rattle.records.specs.Record.{Fit}
use Rattle.circuit.specs.Read.{read_of, circuit_of, circuit_in}
use Rattle.std.proofs.lemmas.Bool.{and_parts}
use Rattle.records.proofs.record_chain.Followed.{followed}
use Rattle.circuit.proofs.Answers.{read-answered}
use Rattle.circuit.specs.Written.{records_of, file_of, good_of, write_answer_of, left_of}
use Rattle.circuit.proofs.circuit_write.Cells.{records_most, write-good, length-file, good-is}
use Rattle.circuit.proofs.circuit_laws.WrittenRead.{chain-answered}

good-most : (c : Circuit) → good_of c ≡ true → c.km ≤ 5
good-most c g =
    let t = and_parts (leb 1 c.km) (leb c.km 5 && leb c.shape 1) g in
    leb-true c.km 5 (and_parts (leb c.km 5) (leb c.shape 1) t.1).0

-- what is read has km and shape in range
pub read-range : (o : Form) → Fit o → (f : List ℕ) → IsOk (read_of o f)
    → (1 ≤ (circuit_in (read_of o f)).km) × ((circuit_in (read_of o f)).km ≤ 5) × ((circuit_in (read_of o f)).shape ≤ 1)
unfolding circuit_of
read-range o fit f a =
    let g = chain-answered o f a in
    let h = (followed o fit f g.0 g.1).head in
    rw (read-answered o f g.0 g.1) (h.some, h.most, h.form)

pub read-good : (o : Form) → Fit o → (f : List ℕ) → IsOk (read_of o f)
    → good_of (circuit_in (read_of o f)) ≡ true
read-good o fit f a = let t = read-range o fit f a in good-is (circuit_in (read_of o f)) t.0 t.1 t.2

pub good_read : (o : Form) → Fit o → (f : List ℕ) (c : Circuit) → read_of o f ≡ Ok c → good_of c ≡ true
good_read o fit f c e = rw e at (read-good o fit f (rw e refl))

module _ (o : Form) (fit : Fit o) (c : Circuit) (g : good_of c ≡ true) where
  pub size-most : o.size * records_of c ≤ o.size * 54
  size-most = mul-le-mul_left o.size (omega (arith, records_most c, good-most c g))

  pub file-most : (beside : List ℕ) → length (file_of o c beside) ≤ o.size * 54
  file-most beside = rw (length-file o fit c beside) size-most

  -- the first n cells are the file
  pub written : (beside out : List ℕ) {a : Result ℕ Refusal} {n : ℕ} {out' : List ℕ} → o.size * 54 ≤ length out
      → a ≡ write_answer_of o c out → n ≡ result_unwrap_or a 0 → out' ≡ left_of o c beside out
      → (n ≤ length out') × (n ≡ length (take n out')) × (take n out' ≡ file_of o c beside)
  written beside out {a} {n} {out'} h p q r =
      let t = write-good o fit c beside out g (omega (arith, size-most, h)) in
      let l = length-file o fit c beside in
      let m : n ≡ length (file_of o c beside) = rw (q, p, ← t.0, l) in
      let e : out' ≡ file_of o c beside ++ drop (length (file_of o c beside)) out = rw (r, ← t.1, l) in
      let f : take n out' ≡ file_of o c beside = rw (m, e) (take-append_seam (file_of o c beside) (drop (length (file_of o c beside)) out)) in
      (rw (e, length-append) (omega (arith, m)), rw f m, f)
