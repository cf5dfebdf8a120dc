-- A step towards the root: from a guess r above 0 to the mean of r and n / r. The mean of two numbers is at least the root of their product, so the new guess is not below
-- the root of n; and from a guess whose square is above n the step goes down. Assumes nothing.
use mathlib.Core.Path.{◌≡◌}
use Prim.Native.Nat.{ℕ, zero, suc, ◌+◌, ◌*◌, ◌/◌, ◌≤◌, ◌<◌}
use native.Mathlib.Nat.{le_dest, le_of_lt, lt_of_not-le, mul-le-mul, zero-lt-suc, div-lt_iff_lt-mul, lt-suc_self, not-suc-le-zero}
use native.Mathlib.Decide.{dec_le}
use native.Mathlib.Omega.{arith}

-- (a + b) ^ 2 is 4 * a * b and the square of the difference
product-at-most : (a b : ℕ) → 4 * (a * b) ≤ (a + b) * (a + b)
product-at-most a b = go (dec_le a b)
  where
    apart : (a d : ℕ) → 4 * (a * (a + d)) ≤ (a + (a + d)) * (a + (a + d))
    apart a d = omega arith

    go : Dec (a ≤ b) → 4 * (a * b) ≤ (a + b) * (a + b)
    go (yes h) = let d = le_dest h in let e : a + d.0 ≡ b = d.1 in rw e at (apart a d.0)
    go (no f) = let d = le_dest (le_of_lt (lt_of_not-le f)) in let e : b + d.0 ≡ a = d.1 in let k = rw e at (apart b d.0) in omega arith

below-square : (n a b m : ℕ) → n < a * b → a + b ≤ 2 * m → n < m * m
below-square n a b m h k =
    let p = product-at-most a b in
    let q : (a + b) * (a + b) ≤ 2 * m * (2 * m) = mul-le-mul k k in
    omega arith

pub step-not-below : (n r : ℕ) → 0 < r → n < ((r + n / r) / 2 + 1) * ((r + n / r) / 2 + 1)
step-not-below n r h =
    below-square n r (suc (n / r)) ((r + n / r) / 2 + 1)
    (let l : n < suc (n / r) * r = (div-lt_iff_lt-mul h).0 (lt-suc_self (n / r)) in omega arith)
    (half r (n / r))
  where
    half : (r q : ℕ) → r + suc q ≤ 2 * ((r + q) / 2 + 1)
    half r q = omega arith

-- a guess whose square is above n is above zero
pub guess-pos : (n r : ℕ) → n < r * r → 0 < r
guess-pos n zero h = absurd (not-suc-le-zero h)
guess-pos n (suc r) h = zero-lt-suc r

pub step_down : (n r : ℕ) → n < r * r → (r + n / r) / 2 < r
step_down n r h = let q : n / r < r = (div-lt_iff_lt-mul (guess-pos n r h)).1 h in omega arith
