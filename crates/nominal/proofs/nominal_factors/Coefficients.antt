-- Each literal is the f32 nearest to its decimal: both sides of the table are computed.
use mathlib.Core.Path.{refl}
use lib.Ieee.{of_bits, round}
use Rattle.scalar.specs.Literals.{decimal}
use Rattle.nominal.specs.FactorLiterals.{coefficients, CoefficientsNearest}

pub coefficients-nearest : CoefficientsNearest
unfolding coefficients decimal of_bits round
coefficients-nearest = refl
