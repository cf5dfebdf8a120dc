-- `waves::whole::digits` meets its contract: nothing is shifted out.
use mathlib.Core.Path.{ap}
use Prim.Native.Nat.{ℕ, ◌/◌, ◌^◌}
use native.Mathlib.Nat.{mod-eq_of_lt}
use native.Mathlib.Omega.{arith}
use Rattle.fixed.proofs.Round.{top_of}
use Rattle.waves.proofs.whole.digits.Goals as goal

pub overflow_cast-result : goal.overflow_cast-result
overflow_cast-result c = omega (arith, (top_of c.args.r c.requires c.ranges.r.fits).few)

pub overflow_shl-result : goal.overflow_shl-result
overflow_shl-result c = omega (arith, (top_of c.args.r c.requires c.ranges.r.fits).few)

pub returns : goal.returns
returns c = ap (λ (x : ℕ). x / 2 ^ 32) (mod-eq_of_lt (top_of c.args.r c.requires c.ranges.r.fits).fits)
