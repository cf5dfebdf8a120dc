use Rattle.std.proofs.Common.{rules, sym, ◌∙◌, arith}
use Rattle.totals.proofs.Sums.{sum-fits, too_many, too-dear, all-passed}
use Rattle.totals.proofs.total.Goals as goal
use Rattle.totals.proofs.total.Goals.{then-prices-gt256-via-then-prices-gt256, then-prices-gt256-via-else-prices-gt256+then-not-prices_good}

pub returns-then-prices-gt256 : goal.returns-then-prices-gt256
returns-then-prices-gt256 c = elim c.then-prices-gt256.branch [ then-prices-gt256-via-then-prices-gt256 w ↦ too_many _ (omega (arith, w.if-prices-gt256.true)) | then-prices-gt256-via-else-prices-gt256+then-not-prices_good w ↦ too-dear _ (omega (arith, w.if-prices-gt256.false)) (sym w.prices_good.ensures ∙ w.if-not-prices_good.true) ]

pub sum-requires-clause-fits : goal.sum-requires-clause-fits
sum-requires-clause-fits c = let b = sum-fits c.args.prices.now (omega arith) (sym c.prices_good.ensures ∙ c.if-not-prices_good.false) in search rules

pub returns : goal.returns
returns c = all-passed c.args.prices.now c.sum.result (omega arith) (sym c.prices_good.ensures ∙ c.if-not-prices_good.false) (search rules)
