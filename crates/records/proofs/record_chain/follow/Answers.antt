-- The walk, at the paper's form.
use Rattle.records.proofs.Lists.{fit64}
use Rattle.records.proofs.record_chain.follow.Goals as goal

pub follow_form-requires : goal.follow_form-requires
follow_form-requires c = rw c.form64.ensures fit64

pub returns : goal.returns
returns c = rw (← c.form64.ensures) c.follow_form.ensures
