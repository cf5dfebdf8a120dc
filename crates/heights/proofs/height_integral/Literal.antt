-- The literal is the f32 nearest to its decimal: both sides are computed.
use mathlib.Core.Path.{refl}
use lib.Ieee.{of_bits, round}
use Rattle.scalar.specs.Literals.{decimal}
use Rattle.heights.specs.Exact.{FlatNearest}

pub flat-nearest : FlatNearest
unfolding decimal of_bits round
flat-nearest = refl
