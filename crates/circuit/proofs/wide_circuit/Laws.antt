-- Each law is that of every form, at this one.
use Prim.Native.Nat.{ℕ}
use mathlib.Core.Path.{◌≡◌, refl}
use mathlib.Core.List.{List}
use native.Mathlib.Nat.{one-mul}
use Rattle.std.specs.Prelude.{Ok}
use Rattle.circuit.specs.declared.Circuit.{Circuit}
use Rattle.circuit.specs.Read.{read_of, beside_of}
use Rattle.circuit.specs.Laws.{ReadBack}
use Rattle.circuit.proofs.circuit_laws.ReadWritten.{read-written, read_same, written-length}
use Rattle.circuit.proofs.circuit_laws.WrittenForm.{written-in-form}
use Rattle.circuit.proofs.circuit_laws.WrittenRead.{written_read}
use Rattle.circuit.proofs.circuit_laws.Off.{off-chain}
use Rattle.circuit.specs.Wide.{form128, wide_of}
use Rattle.circuit.specs.WideLaws.{WideLaws}
use Rattle.circuit.proofs.wide_circuit.Fit128.{fit128, wide-in}

-- a circuit and the words beside it, read back
pub wide_back : (c : Circuit) (x f : List ℕ) → ReadBack form128 c x f
    → wide_of f ≡ Ok (record { circuit = c; f2m3 = x })
unfolding wide_of
wide_back c x f b = rw (b.answer, b.words) refl

off-by : (f g : List ℕ) → read_of form128 f ≡ read_of form128 g → beside_of form128 f ≡ beside_of form128 g → wide_of f ≡ wide_of g
unfolding wide_of
off-by f g a b = rw (a, b) refl

pub wide_laws : WideLaws
wide_laws =
    record {
      read-written = λ c x out n w b e. wide_back _ _ _ (read-written form128 fit128 c x out n w b e);
      read_same = λ c x out n w b e z y. wide_back _ _ _ (read_same form128 fit128 c x out n w b e z (rw one-mul y));
      written-length = written-length form128 fit128;
      written-in-form = λ c x out n w b e. written-in-form form128 fit128 c x out n w b e;
      file-again = λ f w. rw (wide-in f) (written_read form128 fit128 f w).file;
      answer-again = λ f out w h. rw (wide-in f) ((written_read form128 fit128 f w).answer out h);
      bytes-again = λ f out w h. rw (wide-in f) ((written_read form128 fit128 f w).bytes out h);
      off-chain = λ f g l s. let t = off-chain form128 f g l s in off-by f g t.0 t.1;
    }
