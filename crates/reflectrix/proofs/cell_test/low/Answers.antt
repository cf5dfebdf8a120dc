-- Operation by operation; the bound of a tame frequency is a number.
use mathlib.Core.Path.{sym, subst, ◌∙◌}
use mathlib.Core.Bool.{false}
use lib.Dec.{T}
use Rattle.reflectrix.specs.Cell.{khz_square_of, low_of, low_pattern_of}
use Rattle.reflectrix.proofs.cell_test.Numbers.{real-number, value-real}
use Rattle.reflectrix.proofs.cell_test.Right.{low-is}
use Rattle.reflectrix.proofs.cell_test.low.Goals as goal

pub float_to_bits-result : goal.float_to_bits-result
unfolding khz_square_of
float_to_bits-result c =
    let z = low-is c.args.fvv (subst T (sym c.well_formed.0.1) tt) (subst T (sym (sym c.is_tame.ensures ∙ c.if-is_tame.true)) tt) in
    real-number _ (value-real _ false z.0 _ z.1)

pub returns-then-is_tame-clause-value : goal.returns-then-is_tame-clause-value
unfolding khz_square_of low_of low_pattern_of
returns-then-is_tame-clause-value c = rw (← c.is_tame.ensures, c.if-is_tame.true)

pub returns-then-is_tame-clause-held : goal.returns-then-is_tame-clause-held
returns-then-is_tame-clause-held c = subst T (sym c.well_formed.0.1) tt

pub returns-clause-value : goal.returns-clause-value
unfolding low_pattern_of
returns-clause-value c = rw (← c.is_tame.ensures, c.if-is_tame.false)

pub returns-clause-held : goal.returns-clause-held
returns-clause-held c = subst T (sym c.well_formed.0.1) tt
