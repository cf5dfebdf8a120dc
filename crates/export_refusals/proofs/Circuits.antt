-- Circuit files: the chain's refusals, the writer's, and the words lent.
use mathlib.Core.Bool.{true, ◌&&◌}
use mathlib.Core.List.{List}
use mathlib.Core.Path.{refl}
use Rattle.std.specs.Prelude.{Result, Ok, Err, IfErr}
use Rattle.refusal.specs.declared.Refusal.{Refusal}
use Rattle.refusal.specs.Number.{answer_number}
use Prim.Native.Nat.{ℕ}
use lib.Dec.{leb}
use lib.ListN.{length}
use Rattle.records.specs.declared.Form.{Form}
use Rattle.records.specs.Record.{form64}
use Rattle.records.specs.Chain.{member, chain_of}
use Rattle.circuit.specs.Read as read
use Rattle.circuit.specs.declared.Circuit.{Circuit}
use Rattle.circuit.specs.Written as written
use Rattle.circuit.specs.Wide.{form128, wide_by, wide_of}
use Rattle.port_circuit.specs.Words.{words_from, circuit_of_words}
use Rattle.port_circuit.specs.Exports as narrow
use Rattle.port_circuit.specs.WideExports as wide
use Rattle.sheet_refusals.specs.Refusals.{Among}
use Rattle.sheet_refusals.proofs.Chain.{chain-in}
use Rattle.sheet_refusals.proofs.Sheet.{read-refused}
use Rattle.export_refusals.specs.Exports.{OneOf, read_numbers, write_numbers, read128_numbers, write128_numbers}
use Rattle.export_refusals.proofs.Cases.{both, by-answer}

-- in either form
read-in : (o : Form) (f : List ℕ) → IfErr (read.read_of o f) (Among read_numbers)
unfolding read.read_of member
read-in o f = read-refused (Among read_numbers) (chain_of o f) (read.circuit_of o f) (chain-in (Among read_numbers) refl refl refl refl o f)

wide-by : (a : Result Circuit Refusal) (f2m3 : List ℕ) → IfErr a (Among read_numbers) → IfErr (wide_by a f2m3) (Among read128_numbers)
wide-by (Ok c) f2m3 p = tt
wide-by (Err r) f2m3 p = p

wide-in : (f : List ℕ) → IfErr (wide_of f) (Among read128_numbers)
unfolding wide_of
wide-in f = wide-by (read.read_of form128 f) (read.beside_of form128 f) (read-in form128 f)

written_in : (o : Form) (c : Circuit) (file : List ℕ) → OneOf write_numbers (answer_number (written.write_answer_of o c file))
unfolding written.write_answer_of member
written_in o c file =
    let n = written.size_of o c in
    both (λ good. OneOf write_numbers (answer_number (written.write_answer_by good (leb n (length file)) n)))
    (both (λ room. OneOf write_numbers (answer_number (written.write_answer_by true room n))) refl refl (leb n (length file)))
    refl (written.good_of c)

pub read-numbers : (file out : List ℕ) → OneOf read_numbers (narrow.port_read file out).number
unfolding narrow.port_read narrow.ported_read_of member
read-numbers file out =
    both (λ b. OneOf read_numbers (narrow.port_read_by b file out).number)
    (by-answer read_numbers (λ a. (narrow.ported_read_of a out).number) (λ c. refl) (λ r. refl) (read.read_of form64 file) (read-in form64 file))
    refl (leb 657 (length out))

pub write-numbers : (words file out : List ℕ) → OneOf write_numbers (narrow.port_write words file out).number
unfolding narrow.port_write member
write-numbers words file out =
    both (λ b. OneOf write_numbers (narrow.port_write_by b (circuit_of_words words) file out).number)
    (written_in form64 (circuit_of_words words) file)
    refl (leb 657 (length words) && leb 1 (length out))

pub read128-numbers : (file out : List ℕ) → OneOf read128_numbers (wide.port_read128 file out).number
unfolding wide.port_read128 wide.ported_wide_of member
read128-numbers file out =
    both (λ b. OneOf read128_numbers (wide.port_read128_by b file out).number)
    (by-answer read128_numbers (λ a. (wide.ported_wide_of a out).number) (λ c. refl) (λ r. refl) (wide_of file) (wide-in file))
    refl (leb 662 (length out))

pub write128-numbers : (words file out : List ℕ) → OneOf write128_numbers (wide.port_write128 words file out).number
unfolding wide.port_write128 member
write128-numbers words file out =
    both (λ b. OneOf write128_numbers (wide.port_write128_by b (circuit_of_words words) (words_from words 657 5) file out).number)
    (written_in form128 (circuit_of_words words) file)
    refl (leb 662 (length words) && leb 1 (length out))
