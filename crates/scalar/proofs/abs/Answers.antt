-- The library's own value without its sign is the definition's. Assumes nothing.
use mathlib.Core.Path.{◌≡◌, refl, ◌∙◌}
use mathlib.Core.Bool.{false}
use lib.Ieee.{Float, nan, inf, fin}
use Rattle.std.specs.Float.{float_with_sign}
use Rattle.scalar.specs.Scalar.{abs_of}
use Rattle.scalar.proofs.abs.Goals as goal

unsigned : (x : Float) → float_with_sign false x ≡ abs_of x
unfolding float_with_sign abs_of
unsigned nan = refl
unsigned (inf s) = refl
unsigned (fin s m e) = refl

pub returns : goal.returns
returns c = c.abs.ensures.value ∙ unsigned c.args.x
