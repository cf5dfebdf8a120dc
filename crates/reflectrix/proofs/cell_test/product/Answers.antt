-- The product is a number.
use mathlib.Core.Path.{sym, subst}
use mathlib.Core.Bool.{false}
use lib.Dec.{T}
use Rattle.reflectrix.proofs.cell_test.Numbers.{real-number, value-real}
use Rattle.reflectrix.proofs.cell_test.Right.{product-is}
use Rattle.reflectrix.proofs.cell_test.product.Goals as goal

pub float_to_bits-result : goal.float_to_bits-result
float_to_bits-result c =
    let a = c.args in
    let z = product-is a.sqcos a.n (subst T (sym c.well_formed.1.0.1) tt) c.requires.1 c.requires.2 c.requires.0 in
    rw c.whole-x.ensures (real-number _ (value-real _ false z.units _ z.is))
