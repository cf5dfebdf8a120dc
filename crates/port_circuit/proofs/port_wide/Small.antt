-- What is read has at most five points, and shape 0 or 1.
use Prim.Native.Nat.{ℕ}
use mathlib.Core.Path.{◌≡◌}
use mathlib.Core.List.{List}
use Rattle.std.specs.Prelude.{Ok}
use Rattle.circuit.proofs.Answers.{Small, small}
use Rattle.circuit.specs.declared.wide_circuit.WideCircuit.{WideCircuit}
use Rattle.circuit.specs.Wide.{form128, wide_of, wide_in}
use Rattle.circuit.proofs.wide_circuit.Fit128.{fit128, wide-in}

wide-small : (f : List ℕ) → Small (wide_in (wide_of f)).circuit
wide-small f = rw (wide-in f) (small form128 fit128 f)

pub wide_small_read : (f : List ℕ) (a : WideCircuit) → wide_of f ≡ Ok a → Small a.circuit
wide_small_read f a e = rw e at (wide-small f)
