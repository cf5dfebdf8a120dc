-- Whatever words the calls leave of a record, they have gone into its part of the array.
use Prim.Native.Nat.{◌+◌, ◌≤◌}
use mathlib.Core.Path.{◌≡◌}
use lib.ListN.{length}
use Rattle.records.specs.declared.Form.{Form}
use Rattle.records.specs.Chain.{padded}
use Rattle.circuit.specs.Read.{RecordsFound, numbers_of}
use Rattle.circuit.proofs.numbers.numbers_of.Given as goal

abbrev pub invariant-loop-i : goal.invariant-loop-i
invariant-loop-i g l = record {
  in_list : l.i ≤ length l.records;
  room : length l.words ≡ g.row.N;
  read : (o : Form) → RecordsFound (goal.F-pre g l.part) (goal.F-post g l.part) o l.file l.records (l.skip + l.width)
      → l.words ≡ padded g.row.N (numbers_of o l.file l.records 0 l.skip l.width l.i);
}
