-- The walk, at this form.
use Rattle.circuit.proofs.wide_circuit.Fit128.{fit128}
use Rattle.circuit.proofs.wide_circuit.follow.Goals as goal

pub follow_form-requires : goal.follow_form-requires
follow_form-requires c = rw c.form128.ensures fit128

pub returns : goal.returns
returns c = rw (← c.form128.ensures) c.follow_form.ensures
