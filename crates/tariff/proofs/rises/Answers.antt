use Rattle.std.proofs.Common.{ltb, rules, tests}
use Rattle.std.proofs.lemmas.List.Sorted.{answers_always}
use Rattle.tariff.proofs.Meaning.{rising-by}
use Rattle.tariff.proofs.rises.Goals as goal

pub returns : goal.returns
returns c = rising-by c.args.tops.now c.is_sorted_by.result (c.is_sorted_by.ensures.cases ltb (answers_always _ _ _ (λ f a r g k. search (rules, tests))))
