-- `waves::whole::minus` meets its contract: the sum stays below 2 ^ 32.
use mathlib.Core.Path.{sym, subst}
use Prim.Native.Nat.{ℕ, ◌^◌, ◌<◌}
use native.Mathlib.Nat.{lt_of_le_of_lt}
use lib.Dec.{lit<}
use Rattle.waves.proofs.Patterns.{taken-le}
use Rattle.waves.proofs.whole.minus.Goals as goal

pub overflow_cast-result : goal.overflow_cast-result
overflow_cast-result c = record { fits = subst (λ (x : ℕ). x < 2 ^ 32) (sym c.horner.ensures) (lt_of_le_of_lt (taken-le c.args.w c.ranges.w.fits) (lit< tt)) }
