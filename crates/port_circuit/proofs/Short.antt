-- What the writer writes is at most 54 records, here of at most 128 bytes.
use mathlib.Core.Bool.{Bool, true, false, ◌&&◌}
use mathlib.Core.List.{List}
use mathlib.Core.Path.{◌≡◌, refl}
use Rattle.std.specs.Result.{result_unwrap_or}
use Rattle.std.proofs.lemmas.Bool.{and_parts}
use Prim.Native.Nat.{ℕ, ◌*◌, ◌≤◌}
use native.Mathlib.Nat.{mul-le-mul_right}
use native.Mathlib.Omega.{arith}
use borrow.Author.Tests.{leb-true}
use lib.Dec.{leb}
use lib.ListN.{length}
use Rattle.records.specs.declared.Form.{Form}
use Rattle.circuit.specs.declared.Circuit.{Circuit}
use Rattle.circuit.specs.Written.{records_of, size_of, good_of, write_answer_by, write_answer_of}
use Rattle.circuit.proofs.circuit_write.Cells.{records_most}

sized : (size n : ℕ) → size ≤ 128 → n ≤ 54 → size * n ≤ 6912
sized size n s h = let m = mul-le-mul_right n s in omega arith

short-by : (o : Form) → o.size ≤ 128 → (good room : Bool) (c : Circuit) → good_of c ≡ good → result_unwrap_or (write_answer_by good room (size_of o c)) 0 ≤ 6912
short-by o s false room c e = omega arith
short-by o s true false c e = omega arith
short-by o s true true c e =
    let five = leb-true c.km 5 (and_parts (leb c.km 5) (leb c.shape 1) (and_parts (leb 1 c.km) (leb c.km 5 && leb c.shape 1) e).1).0 in
    sized o.size (records_of c) s (omega (arith, records_most c))

pub short : (o : Form) → o.size ≤ 128 → (c : Circuit) (out : List ℕ) → result_unwrap_or (write_answer_of o c out) 0 ≤ 6912
unfolding write_answer_of
short o s c out = short-by o s (good_of c) (leb (size_of o c) (length out)) c refl
