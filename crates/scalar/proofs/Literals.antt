-- Each literal is the f32 nearest to its decimal: both sides of the table are computed.
use mathlib.Core.Path.{refl}
use lib.Ieee.{of_bits, round}
use Rattle.scalar.specs.Literals.{literals, decimal}
use Rattle.scalar.specs.Laws.{LiteralsNearest}

pub literals-nearest : LiteralsNearest
unfolding literals decimal of_bits round
literals-nearest = refl
