-- By the least whole number of cents: what reaches a product with one second more reaches the product, and the cents of the one and of the rate together reach the other.
use Prim.Native.Nat.{ℕ, ◌+◌, ◌*◌, ◌≤◌}
use native.Mathlib.Omega.{arith}
use lib.ListN.{get_or}
use Rattle.tariff.specs.Price.{rounded_up}
use Rattle.tariff.specs.Meaning.{LeastCents}
use Rattle.tariff.proofs.Meaning.{price-rule, cents-rule}
use Rattle.figure_laws.specs.Second.{OneSecondMore}

less : (r s c more : ℕ) → LeastCents (r * s) c → LeastCents (r * (s + 1)) more → c ≤ more
less r s c more p q = p.least more (let h = q.reaches in omega arith)

adds : (r s c more : ℕ) → LeastCents (r * s) c → LeastCents (r * (s + 1)) more → more ≤ c + rounded_up r
adds r s c more p q = q.least (c + rounded_up r) (let h = p.reaches in let k = (cents-rule.is r).reaches in omega arith)

pub one-second-more : OneSecondMore
one-second-more muf tops rates seconds c e l =
    let p = price-rule.is muf tops rates seconds c e in
    let n = get_or rates p.band 0 * (seconds + 1) in
    let q = cents-rule.is n in
    record { tenths = p.tenths; printed = p.printed; band = p.band; first = p.first; more = rounded_up n; answered = price-rule.only muf tops rates (seconds + 1) (rounded_up n) (record { tariff = p.tariff; tenths = p.tenths; printed = p.printed; band = p.band; first = p.first; started = omega arith; ended = l; cents = q }); never-lower = less (get_or rates p.band 0) seconds c (rounded_up n) p.cents q; adds-at-most = adds (get_or rates p.band 0) seconds c (rounded_up n) p.cents q }
