-- What the writer writes is at most 6912 bytes long.
use mathlib.Core.Path.{sym, ◌∙◌}
use native.Mathlib.Omega.{arith}
use lib.ListN.{length}
use borrow.Author.Tests.{eqb-false}
use Rattle.port_circuit.proofs.Short.{short}
use Rattle.circuit.specs.Wide.{form128}
use Rattle.port_circuit.proofs.port_wide.write_into.Goals as goal

pub count_into-requires : goal.count_into-requires
count_into-requires c = (
  omega (arith, eqb-false (length c.args.out.now) 0 (sym c.is_empty.ensures ∙ c.if-is_empty.false)),
  rw c.write-a.ensures.value (omega (arith, short form128 (omega arith) c.circuit_of-c.result c.args.file.now)),
)
