use Rattle.std.proofs.Common.{leb, rules, tests, ◌∙◌}
use Rattle.std.proofs.lemmas.Iterator.{YieldsList-from_slice}
use Rattle.std.proofs.lemmas.Iterator.Search.{all_from_yields_List}
use Rattle.tariff.proofs.Meaning.{within-all}
use Rattle.tariff.proofs.all_within.Goals as goal

pub returns : goal.returns
returns c = all_from_yields_List (λ x. leb x c.args.most) _ _ _ c.all.ensures.ran (YieldsList-from_slice c.args.xs.now cc) (λ x b q k. search (rules, tests)) ∙ within-all c.args.most c.args.xs.now
