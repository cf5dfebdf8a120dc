-- The tests in the paper's order; the records are written where all pass.
use Prim.Native.Nat.{ℕ, ◌*◌}
use mathlib.Core.Path.{◌≡◌, ap, ◌∙◌}
use mathlib.Core.List.{◌++◌}
use mathlib.Core.Bool.{false}
use native.Mathlib.Omega.{arith}
use lib.ListN.{drop}
use Rattle.std.proofs.lemmas.Bool.Decides.{nat_tests}
use Rattle.std.specs.Prelude.{Ok}
use Rattle.circuit.specs.Written.{good_of, file_of}
use Rattle.circuit.proofs.circuit_write.Cells.{size-most, write-bad, write-small, write-good}
use Rattle.circuit.proofs.circuit_write.write_form.Goals as goal

pub returns-then-not-contains : goal.returns-then-not-contains
returns-then-not-contains c =
    let a = c.args in
    let e : good_of a.c ≡ false = grind (arith, nat_tests) in
    let t = write-bad a.o c.requires.0 a.c a.beside.now a.out.now e in
    record { value = t.0; out_after = t.1 }

pub overflow_mul-length : goal.overflow_mul-length
overflow_mul-length c =
    let a = c.args in omega (arith, ap (λ (k : ℕ). a.o.size * k) c.records-n.ensures, size-most a.o a.c (grind (arith, nat_tests)))

pub returns-then-out-length : goal.returns-then-out-length
returns-then-out-length c =
    let a = c.args in
    let n = c.records-n.ensures in
    let t = write-small a.o c.requires.0 a.c a.beside.now a.out.now (grind (arith, nat_tests)) (rw n at c.if-out-length.true) in
    record { value = t.0; out_after = t.1 }

pub returns : goal.returns
returns c =
    let a = c.args in
    let b = a.beside.now in
    let n = c.records-n.ensures in
    let g = write-good a.o c.requires.0 a.c b a.out.now (grind (arith, nat_tests)) (rw n at c.if-out-length.false) in
    record {
      value = ap Ok (ap (λ (k : ℕ). a.o.size * k) n) ∙ g.0;
      out_after = c.entries.ensures ∙ ap (λ (k : ℕ). file_of a.o a.c b ++ drop (a.o.size * k) a.out.now) n ∙ g.1;
    }
