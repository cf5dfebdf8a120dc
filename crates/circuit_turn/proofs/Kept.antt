-- A circuit that was read, written in another form: it is read back as it was, and the file is in the writer's form.
use Prim.Native.Nat.{ℕ, zero, suc, ◌*◌, ◌^◌}
use mathlib.Core.Path.{◌≡◌, refl, ap, sym, subst}
use mathlib.Core.List.{List, ◌∷◌}
use native.Mathlib.Omega.{arith}
use native.Mathlib.Nat.{sub-zero, suc-sub-suc}
use lib.ListN.{take, replicate, length-replicate}
use Rattle.circuit.specs.declared.Circuit.{Circuit}
use Rattle.records.specs.declared.Form.{Form}
use Rattle.records.specs.Record.{Fit}
use Rattle.records.specs.Chain.{padded}
use Rattle.circuit.specs.Read.{read_of, circuit_in}
use Rattle.std.specs.Prelude.{Ok, IsOk}
use Rattle.circuit.specs.Written.{records_of, file_of, write_answer_of}
use Rattle.circuit.proofs.circuit_write.Cells.{write-good}
use Rattle.circuit.specs.Forms.{Each, Beside, held_beside, InForm}
use Rattle.circuit.specs.Laws.{ReadBack}
use Rattle.circuit.proofs.circuit_laws.ReadWritten.{written-file}
use Rattle.circuit.proofs.circuit_laws.WrittenForm.{each-zero, file-in-form}
use Rattle.circuit.proofs.circuit_laws.Carried.{whole-read, carried}
use Rattle.circuit.specs.Wide.{form128}
use Rattle.circuit_turn.proofs.Files.{read-range, read-good}

module _ (o : Form) (fit : Fit o) (p : Form) (fits : Fit p) (f beside : List ℕ) (bytes : Each 256 f)
    (a : IsOk (read_of o f)) (x : Beside p beside)
  where
    c : Circuit
    c = (circuit_in (read_of o f))

    n : ℕ
    n = p.size * records_of c

    out : List ℕ
    out = replicate n 0

    written : write_answer_of p c out ≡ Ok n
    unfolding c n out
    written = sym (write-good p fits c beside out (read-good o fit f a) (omega (arith, length-replicate {A = ℕ} n 0))).0

    pub kept : ReadBack p (circuit_in (read_of o f)) (held_beside p (circuit_in (read_of o f)) beside) (file_of p (circuit_in (read_of o f)) beside)
    unfolding c
    kept =
        subst (λ (g : List ℕ). ReadBack p c (held_beside p c beside) g) (written-file p fits c out n written beside)
        (carried o fit p fits f beside out n bytes a x written)

    pub kept-in-form : InForm p (file_of p (circuit_in (read_of o f)) beside)
    kept-in-form =
        let t = read-range o fit f a in
        file-in-form p fits (circuit_in (read_of o f)) beside (whole-read o fit f bytes a) x t.0 t.1 t.2

-- F2M3 that is +0 at five points
pub zero-beside : Beside form128 (replicate 5 0)
zero-beside = record { words = each-zero (2 ^ 32) 5 (omega arith); five = refl }

zeros-held : (n k : ℕ) → padded n (take k (replicate n 0)) ≡ replicate n 0
zeros-held n zero = rw sub-zero refl
zeros-held zero (suc k) = refl
zeros-held (suc n) (suc k) = rw suc-sub-suc (ap (λ (l : List ℕ). 0 ∷ l) (zeros-held n k))

pub zero_held : (c : Circuit) → held_beside form128 c (replicate 5 0) ≡ replicate 5 0
unfolding held_beside
zero_held c = zeros-held 5 (1 * c.km)
