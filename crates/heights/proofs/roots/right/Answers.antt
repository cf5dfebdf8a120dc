-- Quotients by 2 ^ 62 say on which side of 2 ^ 62 the two sums are. Assumes nothing.
use Prim.Native.Nat.{ℕ, ◌+◌, ◌-◌, ◌*◌, ◌/◌, ◌%◌, ◌^◌, ◌≤◌, ◌<◌}
use native.Mathlib.Nat.{lt_of_le_of_lt, mul-le-mul}
use native.Mathlib.Omega.{arith}
use lib.Dec.{lit<}
use Rattle.heights.specs.Guess.{rooted}
use Rattle.heights.proofs.roots.Digits.{test-small, test-right}
use Rattle.heights.proofs.roots.right.Goals as goal

rooted-lt : (b : ℕ) → rooted b < 2 ^ 49
rooted-lt b = lt_of_le_of_lt (mul-le-mul (digits b) (scale b)) (lit< tt)
  where
    digits : (b : ℕ) → 2 ^ 23 + b % 2 ^ 23 ≤ 2 ^ 24
    digits b = omega arith

    scale : (b : ℕ) → 2 ^ 23 + (b / 2 ^ 23 + 1) % 2 * 2 ^ 23 ≤ 2 ^ 24
    scale b = omega arith

digits_lt : (g : ℕ) → g % 2 ^ 25 < 2 ^ 25
digits_lt g = omega arith

square-lt : (g : ℕ) → g % 2 ^ 25 * (g % 2 ^ 25) < 2 ^ 50
square-lt g = go (g % 2 ^ 25) (digits_lt g)
  where
    most : (r : ℕ) → r < 2 ^ 25 → r ≤ 2 ^ 25 - 1
    most r l = omega arith

    go : (r : ℕ) → r < 2 ^ 25 → r * r < 2 ^ 50
    go r l = lt_of_le_of_lt (mul-le-mul (most r l) (most r l)) (lit< tt)

pub overflow_mul-n : goal.overflow_mul-n
overflow_mul-n c = omega (arith, rooted-lt c.args.b)

pub overflow_mul-w : goal.overflow_mul-w
overflow_mul-w c = omega (arith, square-lt c.args.g)

pub overflow_add-w : goal.overflow_add-w
overflow_add-w c = omega (arith, square-lt c.args.g)

pub overflow_sub-w : goal.overflow_sub-w
overflow_sub-w c = omega (arith, rooted-lt c.args.b)

pub overflow_add-result : goal.overflow_add-result
overflow_add-result c = omega (arith, square-lt c.args.g, digits_lt c.args.g)

pub overflow_sub-result : goal.overflow_sub-result
overflow_sub-result c = omega (arith, rooted-lt c.args.b, digits_lt c.args.g)

pub returns : goal.returns
returns c =
    let b = c.args.b in
    let g = c.args.g in
    let r = g % 2 ^ 25 in
    (test-small (r * r) (rooted b) r (square-lt g) (rooted-lt b) (digits_lt g), test-right (r * r) (rooted b) r (square-lt g) (rooted-lt b) (digits_lt g))
