-- `fixed::significand` meets its contract: s has at most 33 leading zeros, so nothing is shifted out.
use mathlib.Core.Path.{ap}
use Prim.Native.Nat.{ℕ, ◌+◌, ◌/◌, ◌^◌, ◌≤◌}
use native.Mathlib.Nat.{mod-eq_of_lt}
use native.Mathlib.Omega.{arith}
use lib.Count.{count_leading_zeros}
use Rattle.fixed.proofs.Round.{rounded}
use Rattle.fixed.proofs.significand.Goals.{Start}
use Rattle.fixed.proofs.significand.Goals as goal

few : (c : Start) → count_leading_zeros 64 c.args.s ≤ 33
few c = (rounded c.args.s c.requires.0 c.requires.1).few

pub overflow_cast-result : goal.overflow_cast-result
overflow_cast-result c = omega (arith, few (goal.at.overflow_cast-result c).Start)

pub overflow_shl-result : goal.overflow_shl-result
overflow_shl-result c = omega (arith, few (goal.at.overflow_shl-result c).Start)

pub returns : goal.returns
returns c = ap (λ (x : ℕ). (x / 2 ^ 39 + 1) / 2) (mod-eq_of_lt (rounded c.args.s c.requires.0 c.requires.1).up)
