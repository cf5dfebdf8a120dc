-- The parts are what stands before the point and what stands after it.
use mathlib.Core.Path.{sym, ◌∙◌}
use lib.Seq.{length-take-le}
use Rattle.composing.proofs.decimals.DigitLists.{point-parts}
use Rattle.composing.proofs.decimals.unsigned.Goals as goal

pub slice_bounds-parts-end : goal.slice_bounds-parts-end
slice_bounds-parts-end c = sym (length-take-le _ _ c.until-p.ensures.0)

pub returns : goal.returns
returns c =
    c.parts.ensures ∙ point-parts _ _ _ _ c.until-p.ensures.1 c.min-e.ensures
