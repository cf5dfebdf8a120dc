use Rattle.std.proofs.Common.{arith}
use Rattle.std.proofs.lemmas.Bool.Decides.{nat_tests}
use Rattle.tariff.specs.Price.{tariff_good}
use Rattle.tariff.proofs.good.Goals as goal

pub returns-then-rises : goal.returns-then-rises
unfolding tariff_good
returns-then-rises c = grind (arith, nat_tests)

pub returns-else-rises : goal.returns-else-rises
unfolding tariff_good
returns-else-rises c = grind (arith, nat_tests)
