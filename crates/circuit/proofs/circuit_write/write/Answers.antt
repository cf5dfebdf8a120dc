-- The writer of any form, at the paper's, with no words beside the circuit.
use mathlib.Core.Path.{refl}
use Rattle.records.proofs.Lists.{fit64}
use Rattle.circuit.proofs.circuit_write.write.Goals as goal

pub write_form-requires : goal.write_form-requires
write_form-requires c = let e = c.form64.ensures in (rw e fit64, rw e refl)

pub returns : goal.returns
returns c =
    let e = c.form64.ensures in
    rw e at c.write_form.ensures
