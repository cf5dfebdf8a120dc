-- `arcs::arcsin::part` meets its contract: u / 2 ^ k is below 1.
use Prim.Native.Nat.{ℕ, ◌-◌, ◌*◌, ◌^◌, ◌≤◌, ◌<◌}
use native.Mathlib.Nat.{div-le_of_le-mul, mul-le-mul_right, mul-le-mul, le_of_lt, lt_of_lt_of_le}
use native.Mathlib.Omega.{arith}
use lib.Pow.{pow_mono}
use mir.Syntax.{w64}
use mir.Val.{Fits}
use Rattle.arcs.proofs.arcsin.part.Goals as goal

u_lt : (u k : ℕ) → u < 2 ^ k → k ≤ 32 → u < 2 ^ 32
u_lt u k h l = lt_of_lt_of_le h (pow_mono {i = k} {j = 32} l)

product_fits : (u c : ℕ) → u < 2 ^ 32 → c < 2 ^ 32 → Fits w64 (u * c)
product_fits u c h k = go (mul-le-mul (below u h) (below c k))
  where
    below : (x : ℕ) → x < 2 ^ 32 → x ≤ 2 ^ 32 - 1
    below x h = omega arith

    go : u * c ≤ (2 ^ 32 - 1) * (2 ^ 32 - 1) → Fits w64 (u * c)
    go l = omega arith

pub overflow_mul-result : goal.overflow_mul-result
overflow_mul-result c = product_fits c.args.u c.args.c (u_lt c.args.u c.args.k c.requires.0 c.requires.1) c.requires.2

pub returns : goal.returns
returns c = div-le_of_le-mul (2 ^ c.args.k) (mul-le-mul_right c.args.c (le_of_lt c.requires.0))
