use Rattle.tariff.proofs.Meaning.{rounded-by}
use Rattle.std.proofs.Common.{◌∙◌}
use Rattle.tariff.proofs.rounded_up.Goals as goal

pub returns : goal.returns
returns c = c.div_ceil.ensures ∙ rounded-by c.args.n
