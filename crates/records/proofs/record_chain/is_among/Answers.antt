-- The method's answer is the test of the definition.
use mathlib.Core.Path.{◌∙◌}
use Rattle.records.proofs.record_chain.Members.{any_member}
use Rattle.records.proofs.record_chain.is_among.Goals as goal

pub returns : goal.returns
returns c = c.contains.ensures.value ∙ any_member _ _
