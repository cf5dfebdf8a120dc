-- Up to 4 the scaled number is at most 2 ^ 37, so that the product fits.
use native.Mathlib.Nat.{le_trans, le_of_eq}
use native.Mathlib.Omega.{arith}
use mathlib.Core.Path.{ap}
use Prim.Native.Nat.{ℕ, ◌*◌, ◌^◌}
use Rattle.waves.proofs.Magnitude.{scaled-le}
use Rattle.waves.proofs.whole.magnitude.Goals as goal

pub scaled-requires : goal.scaled-requires
scaled-requires c = omega (arith, c.requires)

pub overflow_mul-result : goal.overflow_mul-result
overflow_mul-result c = omega (arith, le_trans (le_of_eq c.scaled.ensures) (scaled-le c.args.a c.requires.1))

pub returns : goal.returns
returns c = ap (λ (x : ℕ). x * 2 ^ 26) c.scaled.ensures
