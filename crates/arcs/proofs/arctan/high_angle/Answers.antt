-- `arcs::arctan::high_angle` meets its contract: Reduce.antt has the bounds of index, rest and quotient.
use mathlib.Core.Path.{sym, ap, ap₂, ◌∙◌, subst}
use Prim.Native.Nat.{ℕ, ◌+◌, ◌-◌, ◌*◌, ◌/◌, ◌^◌, ◌<◌, ◌≤◌}
use native.Mathlib.Omega.{arith}
use native.Mathlib.Nat.{le_trans, mul-le-mul}
use lib.Pow.{pow_pos, pow_mono}
use lib.Dec.{lit<, lit≤}
use mir.Syntax.{w64}
use mir.Val.{Fits}
use lib.ListN.{get_or}
use Rattle.fixed.specs.Fixed.{digits}
use Rattle.arc_tables.specs.Tables.{angles, half_pi}
use Rattle.arc_tables.proofs.Angles.{Entry}
use Rattle.arcs.specs.Atan.{angle_of, steep_of}
use Rattle.fixed.proofs.Sizes.{dig-low, dig-high}
use Rattle.arcs.proofs.Reduce.{high-top, high-fine, high-coarse, at_lt, at_high, rest-most, den-most, quo-most, steep-entry, sum-fits}
use Rattle.arcs.proofs.arctan.high_angle.Goals.{After-power-e}
use Rattle.arcs.proofs.arctan.high_angle.Goals as goal

abbrev n : After-power-e → ℕ
n c = 4 * digits c.args.a

abbrev e : After-power-e → ℕ
e c = c.power-e.result

range : (c : After-power-e) → (1 ≤ e c) × (e c ≤ 2 ^ 25)
range c =
    let a = c.args.a in
    subst (λ (x : ℕ). (1 ≤ x) × (x ≤ 2 ^ 25)) (sym c.power-e.ensures) (pow_pos (152 - a / 2 ^ 23), pow_mono {i = 152 - a / 2 ^ 23} {j = 25} (less a c.requires.0))
  where
    less : (a : ℕ) → 0x3f80_0000 ≤ a → 152 - a / 2 ^ 23 ≤ 25
    less a h = omega arith

top : (c : After-power-e) → e c ≤ n c
top c = high-top (digits c.args.a) (e c) (dig-low c.args.a) (range c).1

fine : (c : After-power-e) → 2 ^ 16 * 2 ^ 8 ≤ n c
fine c = high-fine (digits c.args.a) (dig-low c.args.a)

coarse : (c : After-power-e) → 129 * (e c + n c) ≤ 2 ^ 16 * (2 ^ 18 - 2 ^ 10)
coarse c = high-coarse (digits c.args.a) (e c) (dig-high c.args.a) (range c).1

n-most : (c : After-power-e) → n c ≤ 2 ^ 26
n-most c = omega (arith, dig-high c.args.a)

abbrev place : After-power-e → ℕ
place c = (2 ^ 7 * e c + 2 ^ 16) / n c

place-lt : (c : After-power-e) → place c < 129
place-lt c = at_lt (n c) (e c) (2 ^ 16) (top c) (lit< tt) (fine c) (coarse c)

prod-fits : (x y : ℕ) → x ≤ 2 ^ 26 → y < 129 → Fits w64 (x * (y + 1))
prod-fits x y h k = go (mul-le-mul h k')
  where
    k' : y + 1 ≤ 129
    k' = omega arith

    go : x * (y + 1) ≤ 2 ^ 26 * 129 → Fits w64 (x * (y + 1))
    go l = omega arith

above : (n e i : ℕ) → 2 ^ 7 * e + 2 ^ 16 < i * n + n → 2 ^ 7 * e ≤ n * (i + 1)
above n e i h = omega arith

den-le : (c : After-power-e) → e c * (place c + 1) + 2 ^ 7 * n c ≤ 2 ^ 34
den-le c = le_trans (den-most (n c) (e c) (2 ^ 16) (top c) (lit< tt) (fine c) (coarse c)) (le_trans (coarse c) (lit≤ tt))

fits-34 : (d : ℕ) → d ≤ 2 ^ 34 → Fits w64 d
fits-34 d h = omega arith

rest_lt : (r n : ℕ) → r ≤ 2 ^ 16 + n → n ≤ 2 ^ 26 → r < 2 ^ 31
rest_lt r n h k = omega arith

den-least : (y n : ℕ) → 2 ^ 16 * 2 ^ 8 ≤ n → 2 ^ 25 ≤ y + 2 ^ 7 * n
den-least y n h = omega arith

div-pos : (n : ℕ) → 2 ^ 16 * 2 ^ 8 ≤ n → 0 < n
div-pos n h = omega arith

pub overflow_mul-j : goal.overflow_mul-j
overflow_mul-j c = let h = (range (goal.at.overflow_mul-j c).After-power-e).1 in omega arith

pub overflow_add-j : goal.overflow_add-j
overflow_add-j c = let h = (range (goal.at.overflow_add-j c).After-power-e).1 in omega arith

pub nonzero_div-j : goal.nonzero_div-j
nonzero_div-j c =
    let s = (goal.at.nonzero_div-j c).After-power-e in
    div-pos (n s) (fine s)

pub overflow_add-j-2 : goal.overflow_add-j-2
overflow_add-j-2 c = let h = place-lt (goal.at.overflow_add-j-2 c).After-power-e in omega arith

pub overflow_mul-n-2 : goal.overflow_mul-n-2
overflow_mul-n-2 c =
    let s = (goal.at.overflow_mul-n-2 c).After-power-e in
    prod-fits (n s) (place s) (n-most s) (place-lt s)

pub overflow_mul-e : goal.overflow_mul-e
overflow_mul-e c = let h = (range (goal.at.overflow_mul-e c).After-power-e).1 in omega arith

pub overflow_sub-n : goal.overflow_sub-n
overflow_sub-n c =
    let s = (goal.at.overflow_sub-n c).After-power-e in
    above (n s) (e s) (place s) (at_high (n s) (e s) (2 ^ 16) (top s) (lit< tt) (fine s) (coarse s))

pub overflow_mul-e-2 : goal.overflow_mul-e-2
overflow_mul-e-2 c =
    let s = (goal.at.overflow_mul-e-2 c).After-power-e in
    prod-fits (e s) (place s) (le_trans (range s).1 (lit≤ tt)) (place-lt s)

pub overflow_mul-n-3 : goal.overflow_mul-n-3
overflow_mul-n-3 c = let h = n-most (goal.at.overflow_mul-n-3 c).After-power-e in omega arith

pub overflow_add-e : goal.overflow_add-e
overflow_add-e c =
    let s = (goal.at.overflow_add-e c).After-power-e in
    fits-34 (e s * (place s + 1) + 2 ^ 7 * n s) (den-le s)

pub quotient-q-requires : goal.quotient-q-requires
quotient-q-requires c =
    let s = (goal.at.quotient-q-requires c).After-power-e in (
      rest_lt (n s * (place s + 1) - 2 ^ 7 * e s) (n s) (rest-most (n s) (e s) (2 ^ 16) (top s) (lit< tt) (fine s) (coarse s)) (n-most s),
      den-least (e s * (place s + 1)) (n s) (fine s),
      le_trans (den-le s) (lit≤ tt),
    )

pub tangent_angle-requires : goal.tangent_angle-requires
tangent_angle-requires c = let h = place-lt (goal.at.tangent_angle-requires c).After-power-e in omega arith

entry-at : (c : After-power-e) → Entry 1 (place c + 1) 128 (half_pi - get_or angles (place c + 1) 0)
entry-at c = steep-entry (n c) (e c) (2 ^ 16) (top c) (lit< tt) (fine c) (coarse c)

pub overflow_sub-tangent_angle : goal.overflow_sub-tangent_angle
overflow_sub-tangent_angle c = let h = (entry-at (goal.at.overflow_sub-tangent_angle c).After-power-e).least in omega (arith, c.tangent_angle.ensures)

pub angle_sum-requires : goal.angle_sum-requires
angle_sum-requires c =
    let s = (goal.at.angle_sum-requires c).After-power-e in
    sum-fits (ap (λ (A : ℕ). half_pi - A) c.tangent_angle.ensures) c.quotient-q.ensures (entry-at s).most (quo-most (n s) (e s) (2 ^ 16) (top s) (lit< tt) (fine s) (coarse s))

pub returns : goal.returns
returns c =
    c.angle_sum.ensures ∙ ap₂ (λ (A q : ℕ). angle_of (half_pi - A) q) c.tangent_angle.ensures c.quotient-q.ensures
    ∙ ap (λ (y : ℕ). steep_of (n (goal.at.returns c).After-power-e) y (2 ^ 16)) c.power-e.ensures
