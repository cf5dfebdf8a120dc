-- The code's operations are the definition's, in its order.
use Rattle.circuit.specs.Read.{no_circuit}
use mathlib.Core.Path.{refl}
use Rattle.circuit.proofs.numbers.nothing.Goals as goal

pub returns : goal.returns
unfolding no_circuit
returns c = refl
