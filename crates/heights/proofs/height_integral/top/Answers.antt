-- Both numbers are owned, so they are f32, and the theorem on the sum holds of them.
use mathlib.Core.Path.{refl, sym, subst}
use lib.Dec.{T}
use Rattle.heights.proofs.height_integral.First.{lowest-below}
use Rattle.heights.proofs.height_integral.top.Goals as goal

pub returns : goal.returns
returns c = (refl, λ h. lowest-below c.args.x c.args.h0 (subst T (sym c.well_formed.1.0.1) tt) (subst T (sym c.well_formed.0.1) tt) h)
