-- `fixed::scaled` meets its contract: 24 bits moved up by at most 39 places stay within 64.
use Prim.Native.Nat.{ℕ, ◌+◌, ◌-◌, ◌/◌, ◌^◌, ◌≤◌}
use native.Mathlib.Nat.{mod-eq_of_lt, lt_of_le_of_lt, mul-le-mul}
use native.Mathlib.Omega.{arith}
use lib.Dec.{lit<}
use lib.Pow.{pow_mono}
use Rattle.fixed.specs.Fixed.{digits}
use Rattle.fixed.proofs.scaled.Goals as goal

up_to : (a : ℕ) → digits a ≤ 2 ^ 24 - 1
up_to a = omega arith

places : (a k : ℕ) → a / 2 ^ 23 ≤ k + 39 → a / 2 ^ 23 - k ≤ 39
places a k h = omega arith

pub returns : goal.returns
returns c = mod-eq_of_lt (lt_of_le_of_lt (mul-le-mul (up_to c.args.a) (pow_mono (places c.args.a c.args.k c.requires.1))) (lit< tt))
