-- A product of two numbers of 32 bits fits 64.
use Prim.Native.Nat.{ℕ, ◌-◌, ◌*◌, ◌^◌, ◌≤◌, ◌<◌}
use native.Mathlib.Nat.{mul-le-mul}
use native.Mathlib.Omega.{arith}
use mir.Syntax.{w64}
use mir.Val.{Fits}

-- two halves
pub half_product : {x y : ℕ} → x < 2 ^ 32 → y < 2 ^ 32 → x * y ≤ (2 ^ 32 - 1) * (2 ^ 32 - 1)
half_product {x} {y} h k = let a : x ≤ 2 ^ 32 - 1 = omega arith in let b : y ≤ 2 ^ 32 - 1 = omega arith in mul-le-mul a b

pub half-fits : {x y : ℕ} → x < 2 ^ 32 → y < 2 ^ 32 → Fits w64 (x * y)
half-fits {x} {y} h k = let l = half_product h k in omega arith
