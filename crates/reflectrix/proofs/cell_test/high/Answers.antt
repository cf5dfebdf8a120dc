-- Operation by operation; the bound of a tame frequency is a number.
use mathlib.Core.Path.{sym, subst, ◌∙◌}
use mathlib.Core.Bool.{false}
use lib.Dec.{T}
use Rattle.reflectrix.specs.Cell.{khz_square_of, high_of, high_pattern_of}
use Rattle.reflectrix.proofs.cell_test.Numbers.{real-number, value-real}
use Rattle.reflectrix.proofs.cell_test.Right.{high-is}
use Rattle.reflectrix.proofs.cell_test.high.Goals as goal

pub float_to_bits-result : goal.float_to_bits-result
unfolding khz_square_of
float_to_bits-result c =
    let z = high-is c.args.fvv (subst T (sym c.well_formed.0.1) tt) (subst T (sym (sym c.is_tame.ensures ∙ c.if-is_tame.true)) tt) in
    real-number _ (value-real _ false z.0 _ z.1)

pub returns-then-is_tame : goal.returns-then-is_tame
unfolding khz_square_of high_of high_pattern_of
returns-then-is_tame c = rw (← c.is_tame.ensures, c.if-is_tame.true)

pub returns : goal.returns
unfolding high_pattern_of
returns c = rw (← c.is_tame.ensures, c.if-is_tame.false)
