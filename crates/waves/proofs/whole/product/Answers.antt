-- `waves::whole::product` meets its contract: two factors below 2 ^ 32.
use Rattle.fixed.proofs.Product.{half-fits}
use Rattle.waves.proofs.Patterns.{times-lt}
use Rattle.waves.proofs.whole.product.Goals as goal

pub overflow_mul-result : goal.overflow_mul-result
overflow_mul-result c = half-fits c.ranges.u.fits c.ranges.v.fits

pub overflow_cast-result-3 : goal.overflow_cast-result-3
overflow_cast-result-3 c = record { fits = times-lt c.args.u c.args.v c.ranges.u.fits c.ranges.v.fits }
