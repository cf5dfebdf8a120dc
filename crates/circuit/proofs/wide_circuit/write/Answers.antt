-- The writer of any form, at this one.
use borrow.Author.Rules.{rules}
use Rattle.circuit.proofs.wide_circuit.Fit128.{fit128}
use Rattle.circuit.proofs.wide_circuit.write.Goals as goal

pub write_form-requires : goal.write_form-requires
write_form-requires c = let e = c.form128.ensures in (rw e fit128, rw e (search rules))

pub returns : goal.returns
returns c =
    let e = c.form128.ensures in
    rw e at c.write_form.ensures
