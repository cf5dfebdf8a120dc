use Rattle.std.proofs.Common.{leb, rules, tests, ◌∙◌}
use Rattle.std.proofs.lemmas.Iterator.{YieldsList-from_slice}
use Rattle.std.proofs.lemmas.Iterator.Search.{all_from_yields_List}
use Rattle.totals.proofs.Sums.{good-is}
use Rattle.totals.proofs.prices_good.Goals as goal

pub returns : goal.returns
returns c = all_from_yields_List (λ p. leb p 14400000) _ _ _ c.all.ensures.ran (YieldsList-from_slice c.args.prices.now cc) (λ x b q k. search (rules, tests)) ∙ good-is c.args.prices.now
