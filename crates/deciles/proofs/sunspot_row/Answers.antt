-- The sum is the definition, case by case.
use mathlib.Core.Bool.{not, ◌&&◌}
use Rattle.scalar.specs.F32.{◌≤f◌, ◌>f◌}
use Rattle.scalar.specs.Literals.{f50, f100}
use Rattle.deciles.specs.F2dis.{sunspot_row_of}
use Rattle.deciles.proofs.Sums.{row-sum, one-fits, two-fit}
use Rattle.deciles.proofs.sunspot_row.Goals as goal

pub overflow_cast-result : goal.overflow_cast-result
overflow_cast-result c = tt

pub overflow_add-result : goal.overflow_add-result
overflow_add-result c = one-fits (not (c.args.ssn ≤f f50))

pub overflow_cast-result-2 : goal.overflow_cast-result-2
overflow_cast-result-2 c = tt

pub overflow_add-result-2 : goal.overflow_add-result-2
overflow_add-result-2 c = two-fit (not (c.args.ssn ≤f f50)) (not (c.args.ssn ≤f f50) && (c.args.ssn >f f100))

pub returns : goal.returns
unfolding sunspot_row_of
returns c = row-sum (c.args.ssn ≤f f50) (c.args.ssn >f f100)
