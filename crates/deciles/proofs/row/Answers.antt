-- The sum is the definition, case by case.
use Prim.Native.Nat.{◌≤◌}
use Rattle.scalar.specs.F32.{◌≤f◌}
use Rattle.scalar.specs.Literals.{f0}
use Rattle.deciles.specs.F2dis.{j_of}
use Rattle.deciles.proofs.Ranges.{sunspot-row-range}
use Rattle.deciles.proofs.Sums.{j-sum, three-fits, j-fits}
use Rattle.deciles.proofs.row.Goals as goal

pub overflow_cast-result : goal.overflow_cast-result
overflow_cast-result c = tt

pub overflow_mul-result : goal.overflow_mul-result
overflow_mul-result c = three-fits (c.args.cl ≤f f0)

pub overflow_add-result : goal.overflow_add-result
overflow_add-result c =
    let r : c.sunspot_row.result ≤ 3 = rw c.sunspot_row.ensures (sunspot-row-range c.args.ssn).1 in
    j-fits (c.args.cl ≤f f0) c.sunspot_row.result r

pub returns : goal.returns
unfolding j_of
returns c = rw (← c.sunspot_row.ensures) (j-sum (c.args.cl ≤f f0) c.sunspot_row.result)
