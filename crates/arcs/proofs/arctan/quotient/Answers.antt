-- `arcs::arctan::quotient` meets its contract.
use mathlib.Core.Path.{◌≡◌, sym, ap, ◌∙◌}
use Prim.Native.Nat.{ℕ, ◌+◌, ◌*◌, ◌/◌, ◌%◌, ◌^◌, ◌<◌, ◌≤◌}
use native.Mathlib.Omega.{arith}
use native.Mathlib.Nat.{mod-lt, div-mul-le_self, div-add-mod', mul-add-div_right, mul-le-mul_left, lt_of_lt_of_le}
use lib.Dec.{lit<}
use mir.Syntax.{w64}
use mir.Val.{Fits}
use Rattle.arcs.proofs.arctan.quotient.Goals as goal

high : (m d : ℕ) → m < 2 ^ 61 → 2 ^ 25 ≤ d → m / d < 2 ^ 36
high m d h k = go (m / d) (div-mul-le_self m d) (mul-le-mul_left (m / d) k)
  where
    go : (x : ℕ) → x * d ≤ m → x * 2 ^ 25 ≤ x * d → x < 2 ^ 36
    go x a b = omega arith

low : (m d : ℕ) → 2 ^ 25 ≤ d → m % d < d
low m d k = mod-lt m (lt_of_lt_of_le (lit< tt) k)

sum : (x y d : ℕ) → 2 ^ 25 ≤ d → d ≤ 2 ^ 38 → x < 2 ^ 36 → y < d → Fits w64 (x * 2 ^ 26 + y * 2 ^ 26 / d)
sum x y d h k a b = go (y * 2 ^ 26 / d) (div-mul-le_self (y * 2 ^ 26) d) (mul-le-mul_left (y * 2 ^ 26 / d) h)
  where
    go : (z : ℕ) → z * d ≤ y * 2 ^ 26 → z * 2 ^ 25 ≤ z * d → Fits w64 (x * 2 ^ 26 + z)
    go z p q = omega arith

is : (n d : ℕ) → 0 < d → n * 2 ^ 30 / d * 2 ^ 26 + n * 2 ^ 30 % d * 2 ^ 26 / d ≡ n * 2 ^ 56 / d
is n d P = sym (ap (λ (x : ℕ). x / d) (go (n * 2 ^ 30 / d) (n * 2 ^ 30 % d) (div-add-mod' (n * 2 ^ 30) d)) ∙ mul-add-div_right P (n * 2 ^ 30 / d * 2 ^ 26) (n * 2 ^ 30 % d * 2 ^ 26))
  where
    go : (x y : ℕ) → x * d + y ≡ n * 2 ^ 30 → n * 2 ^ 56 ≡ x * 2 ^ 26 * d + y * 2 ^ 26
    go x y e = omega arith

pub overflow_mul-result : goal.overflow_mul-result
overflow_mul-result c =
    let h = high (c.args.n * 2 ^ 30) c.args.d (omega (arith, c.requires.0)) c.requires.1 in
    omega arith

pub overflow_mul-result-2 : goal.overflow_mul-result-2
overflow_mul-result-2 c =
    let h = low (c.args.n * 2 ^ 30) c.args.d c.requires.1 in
    omega (arith, c.requires.2)

pub overflow_add-result : goal.overflow_add-result
overflow_add-result c =
    sum (c.args.n * 2 ^ 30 / c.args.d) (c.args.n * 2 ^ 30 % c.args.d) c.args.d c.requires.1 c.requires.2
    (high (c.args.n * 2 ^ 30) c.args.d (omega (arith, c.requires.0)) c.requires.1) (low (c.args.n * 2 ^ 30) c.args.d c.requires.1)

pub returns : goal.returns
returns c = is c.args.n c.args.d (lt_of_lt_of_le (lit< tt) c.requires.1)
