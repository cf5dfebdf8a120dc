-- The band is one of the tariff's, so its rate is at most 10,000 and the product is a u32.
use native.Mathlib.Omega.{arith}
use Rattle.std.proofs.lemmas.Bool.Decides.{nat_tests}
use Rattle.std.proofs.lemmas.Result.{err_from_is_err_and}
use Rattle.tariff.specs.Price.{figure_price}
use Rattle.tariff.proofs.Meaning.{band-in, no-band, rate-at, product-most}
use Rattle.tariff.proofs.figure_price.Goals as goal

pub returns-in_err-band : goal.returns-in_err-band
unfolding figure_price
returns-in_err-band c =
    let p = err_from_is_err_and c.from_residual.result c.from_residual.ensures.1 in
    let m = no-band _ c.args.tops.now _ _ (rw c.first_band.ensures at c.in_err-band.ensures.value) in
    rw (p.1, p.2, m.0, m.1)

pub returns-then-not-contains : goal.returns-then-not-contains
unfolding figure_price
returns-then-not-contains c = grind (arith, nat_tests)

pub bounds-rates-band : goal.bounds-rates-band
bounds-rates-band c = let b = band-in _ c.args.tops.now c.in_ok-band.band _ (rw c.first_band.ensures at c.in_ok-band.ensures.value) in rate-at c.args.tops.now _ _ c.requires b.0

pub overflow_mul-rates : goal.overflow_mul-rates
overflow_mul-rates c =
    let b = band-in _ c.args.tops.now c.in_ok-band.band _ (rw c.first_band.ensures at c.in_ok-band.ensures.value) in
    let m = product-most c.args.tops.now c.args.rates.now c.in_ok-band.band c.args.seconds c.requires b.0 (grind (arith, nat_tests)) in
    record { fits = omega arith }

pub returns : goal.returns
unfolding figure_price
returns c = grind (arith, nat_tests)
