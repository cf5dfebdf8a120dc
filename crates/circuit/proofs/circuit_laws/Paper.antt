-- The paper's form is fit and adds no words, so nothing stands beside a circuit there.
use Prim.Native.Nat.{ℕ, ◌≤◌}
use mathlib.Core.Path.{◌≡◌, refl, ap, sym, ◌∙◌}
use mathlib.Core.List.{List, []}
use native.Mathlib.Omega.{arith}
use native.Mathlib.Nat.{zero-mul}
use lib.ListN.{length, take}
use Rattle.std.specs.Prelude.{Result, Ok, Err}
use Rattle.refusal.specs.declared.Refusal.{Refusal}
use Rattle.records.specs.declared.record_chain.Chain.{Chain}
use Rattle.records.specs.Record.{form64, record_at}
use Rattle.records.specs.Chain.{km_of, chain_of}
use Rattle.circuit.specs.Read.{numbers_of, read_of, circuit_in, beside_by, beside_of}
use Rattle.records.proofs.record_chain.Members.{length-padded}
use Rattle.circuit.proofs.Lists.{length-numbers}
use Rattle.std.proofs.lemmas.List.{nil_from_length}
use Rattle.records.proofs.Lists.{fit64}
use Rattle.circuit.specs.Written.{file_of, left_of}
use Rattle.circuit.specs.Forms.{Beside}
use Rattle.circuit.specs.Paper.{PaperLaws}
use Rattle.circuit.proofs.circuit_laws.ReadWritten.{read-written, read_same, written-length}
use Rattle.circuit.proofs.circuit_laws.WrittenForm.{written-in-form}
use Rattle.circuit.proofs.circuit_laws.WrittenRead.{written_read}

none-by : (a : Result Chain Refusal) (l : Chain → List ℕ) → ((c : Chain) → length (l c) ≤ 0) → beside_by form64 a l ≡ []
none-by (Ok c) l h = nil_from_length _ (length-padded 0 (l c) (h c))
none-by (Err r) l h = refl

none_beside : (f : List ℕ) → beside_of form64 f ≡ []
unfolding beside_of
none_beside f =
    let km = km_of (record_at form64 f 0) in
    none-by (chain_of form64 f) (λ c. numbers_of form64 f c.order 1 15 0 km)
    (λ c. omega (arith, length-numbers form64 f c.order 1 15 0 km))

none : Beside form64 []
none = record { words = tt; five = refl }

pub paper-laws : PaperLaws
paper-laws =
    record {
      read-written = λ c out n w e. (read-written form64 fit64 c [] out n w none e).answer;
      read_same = λ c out n w e z. (read_same form64 fit64 c [] out n w none e z (rw zero-mul)).answer;
      written-length = written-length form64 fit64;
      written-in-form = λ c out n w e. written-in-form form64 fit64 c [] out n w none e;
      file-again =
          λ f w. ap (file_of form64 (circuit_in (read_of form64 f))) (sym (none_beside f)) ∙ (written_read form64 fit64 f w).file;
      answer-again = λ f out w h. (written_read form64 fit64 f w).answer out h;
      bytes-again =
          λ f out w h. ap (λ (l : List ℕ). take (length f) (left_of form64 (circuit_in (read_of form64 f)) l out)) (sym (none_beside f))
          ∙ (written_read form64 fit64 f w).bytes out h;
    }
