use native.Mathlib.Omega.{arith}
use Rattle.std.proofs.lemmas.Bool.Decides.{nat_tests}
use Rattle.tariff.specs.Price.{price_of}
use Rattle.tariff.proofs.price.Goals as goal

pub returns-then-not-good : goal.returns-then-not-good
unfolding price_of
returns-then-not-good c = rw (← c.good.ensures, c.if-not-good.true)

pub returns-in-Tenths : goal.returns-in-Tenths
unfolding price_of
returns-in-Tenths c =
    rw (← c.good.ensures, c.if-not-good.false, ← c.figure.ensures, c.in-Tenths.is) c.figure_price.ensures

pub returns-in-Minus : goal.returns-in-Minus
unfolding price_of
returns-in-Minus c =
    grind (arith, nat_tests)
