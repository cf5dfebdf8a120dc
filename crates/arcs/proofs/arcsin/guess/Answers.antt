-- `arcs::arcsin::guess` meets its contract: n has at most 2 k bits, so that n / 2 ^ k is below 2 ^ k, and n below g * 2 ^ k.
use mathlib.Core.Path.{◌≡◌}
use Prim.Native.Nat.{ℕ, suc, ◌+◌, ◌-◌, ◌*◌, ◌/◌, ◌^◌, ◌≤◌, ◌<◌}
use native.Mathlib.Nat.{lt_of_lt_of_le, le_of_eq, div-lt_iff_lt-mul, le_trans, mul-le-mul, lt-suc_self}
use native.Mathlib.Omega.{arith}
use lib.Pow.{pow_pos, pow_mono, pow-add}
use lib.Count.{count_leading_zeros, leading_top}
use Rattle.arcs.proofs.arcsin.guess.Goals as goal

abbrev half : ℕ → ℕ
half n = (65 - count_leading_zeros 64 n) / 2

below : (n : ℕ) → 0 < n → n < 2 ^ 64 → n < 2 ^ half n * 2 ^ half n
below n p h =
    let t = leading_top 64 n p h in
    lt_of_lt_of_le t.3 (le_trans (pow_mono (go (count_leading_zeros 64 n) t.0 t.1)) (le_of_eq (pow-add 2 (half n) (half n))))
  where
    go : (l j : ℕ) → l + suc j ≡ 64 → suc j ≤ (65 - l) / 2 + (65 - l) / 2
    go l j e = omega arith

quotient_lt : (n : ℕ) → 0 < n → n < 2 ^ 64 → n / 2 ^ half n < 2 ^ half n
quotient_lt n p h = (div-lt_iff_lt-mul (pow_pos (half n))).1 (below n p h)

half_le : (n : ℕ) → half n ≤ 32
half_le n = go (count_leading_zeros 64 n)
  where
    go : (l : ℕ) → (65 - l) / 2 ≤ 32
    go l = omega arith

power_le : (n : ℕ) → 2 ^ half n ≤ 2 ^ 32
power_le n = pow_mono (half_le n)

above : (n : ℕ) → n < suc (n / 2 ^ half n) * 2 ^ half n
above n = (div-lt_iff_lt-mul (pow_pos (half n))).0 (lt-suc_self (n / 2 ^ half n))

u_lt : (n p : ℕ) → 0 < n → n < 2 ^ 64 → p ≡ 2 ^ half n → p - 1 - n / 2 ^ half n < 2 ^ half n
u_lt n p l h e = let q = quotient_lt n l h in omega arith

pub overflow_sub-k : goal.overflow_sub-k
overflow_sub-k c = let e = (leading_top 64 c.args.n c.requires c.ranges.n.fits).1 in omega arith

pub overflow_sub-u : goal.overflow_sub-u
overflow_sub-u c = let e = c.power-p.ensures in let p = pow_pos (half c.args.n) in omega arith

pub overflow_sub-u-2 : goal.overflow_sub-u-2
overflow_sub-u-2 c = let e = c.power-p.ensures in let q = quotient_lt c.args.n c.requires c.ranges.n.fits in omega arith

pub part-requires : goal.part-requires
part-requires c = (u_lt c.args.n c.power-p.result c.requires c.ranges.n.fits c.power-p.ensures, half_le c.args.n, omega arith)

pub part-a-requires : goal.part-a-requires
part-a-requires c = let h = c.part.ensures in (u_lt c.args.n c.power-p.result c.requires c.ranges.n.fits c.power-p.ensures, half_le c.args.n, omega arith)

pub overflow_add-a : goal.overflow_add-a
overflow_add-a c = let h = c.part-a.ensures in let g = c.part.ensures in omega arith

pub part-requires-2 : goal.part-requires-2
part-requires-2 c =
    let h = c.part-a.ensures in
    let g = c.part.ensures in
    let u = u_lt c.args.n c.power-p.result c.requires c.ranges.n.fits c.power-p.ensures in
    let p = power_le c.args.n in
    (omega arith, omega arith, omega arith)

pub overflow_sub-p : goal.overflow_sub-p
overflow_sub-p c =
    let h = c.part-2.ensures in
    let e = c.power-p.ensures in
    let q = quotient_lt c.args.n c.requires c.ranges.n.fits in
    omega arith

pub mean-requires : goal.mean-requires
mean-requires c =
    let n = c.args.n in
    go c.power-p.result (2 ^ half n) (n / 2 ^ half n) c.part-2.result n c.power-p.ensures (quotient_lt n c.requires c.ranges.n.fits) (power_le n) c.part-2.ensures (above n)
  where
    go : (P p w r n : ℕ) → P ≡ p → w < p → p ≤ 2 ^ 32 → r ≤ P - 1 - w → n < suc w * p → (0 < P - r) × (P - r ≤ 2 ^ 32) × (n < (P - r) * (2 ^ 33 - (P - r)))
    go P p w r n e q l h a =
        let g : suc w ≤ P - r = omega arith in
        let k : p ≤ 2 ^ 33 - (P - r) = omega arith in
        let m = mul-le-mul g k in
        (omega arith, omega arith, lt_of_lt_of_le a m)

pub returns : goal.returns
returns c = c.mean.ensures
