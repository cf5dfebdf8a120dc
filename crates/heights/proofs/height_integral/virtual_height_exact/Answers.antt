-- The place found is not the lowest, since the sum is above the lowest height or NaN: so there is a height before it.
use mathlib.Core.Path.{sym, subst}
use Prim.Native.Nat.{ℕ, ◌≤◌}
use Rattle.heights.specs.Exact.{virtual_height_exact_of}
use Rattle.heights.proofs.height_integral.First.{past_first}
use Rattle.heights.proofs.height_integral.virtual_height_exact.Goals as goal

pub overflow_sub-n : goal.overflow_sub-n
overflow_sub-n c = subst (λ (n : ℕ). 1 ≤ n) (sym c.last-n.ensures.0) (past_first _ _ (c.top-end.ensures.1 c.requires))

pub returns : goal.returns
unfolding virtual_height_exact_of
returns c = rw (← c.top-end.ensures.0, ← c.last-n.ensures.0, ← c.whole-sum.ensures, ← c.seg-part.ensures)
