-- Each place is the function's of its frequency.
use Prim.Native.Nat.{ℕ}
use borrow.Author.Rules.{rules}
use lib.Dec.{T}
use lib.Ieee.{Float, binary32, nan, fits}
use lib.Ieee.Positive.{positive}
use Rattle.scalar.specs.F32.{at}
use Rattle.scalar.proofs.FromFn.{from_fn_each, from_fn_map}
use Rattle.reflectrix.specs.Cell.{low_pattern_of, high_pattern_of}
use Rattle.reflectrix.proofs.cell_rows.Rows.new.Goals as goal

pub invariant_of-result : goal.invariant_of-result
invariant_of-result c =
    let fv = c.args.fv in
    record {
      lows = from_fn_map low_pattern_of fv nan 0 (search rules) (λ i y q l h. (search rules, search rules)) c.from_fn-2.ensures.items;
      highs = from_fn_map high_pattern_of fv nan 0 (search rules) (λ i y q l h. (search rules, search rules)) c.from_fn-3.ensures.items;
      held = from_fn_each (λ (i : ℕ) (y : ℕ). T (fits binary32 (at fv i))) (λ i y q l h. (search rules, search rules)) c.from_fn-2.ensures.items 0;
      plains = from_fn_each (λ (i : ℕ) (y : Float). T (positive y)) (λ i y q l h. (search rules, search rules)) c.from_fn.ensures.items nan;
    }
