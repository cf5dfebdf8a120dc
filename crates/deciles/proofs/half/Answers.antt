-- The sum is the definition, case by case.
use Rattle.scalar.specs.F32.{◌≤f◌}
use Rattle.deciles.specs.F2dis.{i_of}
use Rattle.deciles.proofs.Sums.{i-sum, eight_fits}
use Rattle.deciles.proofs.half.Goals as goal

pub overflow_cast-result : goal.overflow_cast-result
overflow_cast-result c = tt

pub overflow_mul-result : goal.overflow_mul-result
overflow_mul-result c = eight_fits (c.args.freq ≤f c.args.fmuf)

pub returns : goal.returns
unfolding i_of
returns c = i-sum (c.args.freq ≤f c.args.fmuf)
