-- `arcs::arctan::mid_angle` meets its contract: Reduce.antt has the bounds of index, rest and quotient.
use mathlib.Core.Path.{sym, ap, ap₂, ◌∙◌, subst}
use Prim.Native.Nat.{ℕ, ◌+◌, ◌-◌, ◌*◌, ◌/◌, ◌^◌, ◌<◌, ◌≤◌}
use native.Mathlib.Omega.{arith}
use native.Mathlib.Nat.{le_trans, mul-le-mul_right}
use lib.Dec.{lit<, lit≤}
use Rattle.fixed.specs.Fixed.{digits}
use Rattle.arcs.specs.Atan.{angle_of, gentle_of}
use Rattle.fixed.proofs.Sizes.{dig-low, dig-high}
use Rattle.arcs.proofs.Reduce.{within, i_lt, i-n, R-most, q-most, E, sum-fits}
use Rattle.arcs.proofs.arctan.mid_angle.Goals.{After-scaled-x}
use Rattle.arcs.proofs.arctan.mid_angle.Goals as goal

range : (c : After-scaled-x) → (2 ^ 23 ≤ c.scaled-x.result) × (c.scaled-x.result ≤ 2 ^ 30)
range c =
    let a = c.args.a in
    let w = within (digits a) (a / 2 ^ 23 - 120) 0 6 (dig-low a) (dig-high a) (omega (arith, c.requires.0)) (omega (arith, c.requires.1)) in
    subst (λ (x : ℕ). (2 ^ 23 ≤ x) × (x ≤ 2 ^ 30)) (sym c.scaled-x.ensures) (le_trans (lit≤ tt) w.0, w.1)

abbrev x : After-scaled-x → ℕ
x c = c.scaled-x.result

abbrev i : After-scaled-x → ℕ
i c = (2 ^ 7 * x c - 2 ^ 20) / 2 ^ 30

least : (c : After-scaled-x) → 2 ^ 30 ≤ x c * 2 ^ 12
least c = le_trans (lit≤ tt) (mul-le-mul_right (2 ^ 12) (range c).0)

index : (c : After-scaled-x) → i c < 128
index c = i_lt (x c) (2 ^ 30) (2 ^ 20) (range c).1 (lit< tt) (lit≤ tt) (lit≤ tt) (least c)

product : (c : After-scaled-x) → i c * x c ≤ 127 * 2 ^ 30
product c = i-n (x c) (2 ^ 30) (2 ^ 20) (range c).1 (lit< tt) (lit≤ tt) (lit≤ tt) (least c)

rest : (c : After-scaled-x) → 2 ^ 7 * x c - i c * 2 ^ 30 ≤ 2 ^ 20 + 2 ^ 30
rest c = R-most (x c) (2 ^ 30) (2 ^ 20) (range c).1 (lit< tt) (lit≤ tt) (lit≤ tt) (least c)

pub overflow_mul-i : goal.overflow_mul-i
overflow_mul-i c = let h = (range (goal.at.overflow_mul-i c).After-scaled-x).1 in omega arith

pub overflow_sub-i : goal.overflow_sub-i
overflow_sub-i c = let h = (range (goal.at.overflow_sub-i c).After-scaled-x).0 in omega arith

pub overflow_mul-x : goal.overflow_mul-x
overflow_mul-x c = let h = (range (goal.at.overflow_mul-x c).After-scaled-x).1 in omega arith

pub overflow_mul-i-2 : goal.overflow_mul-i-2
overflow_mul-i-2 c = let h = (range (goal.at.overflow_mul-i-2 c).After-scaled-x).1 in omega arith

pub overflow_sub-x : goal.overflow_sub-x
overflow_sub-x c = let h = (range (goal.at.overflow_sub-x c).After-scaled-x).1 in omega arith

pub overflow_mul-i-3 : goal.overflow_mul-i-3
overflow_mul-i-3 c = let h = product (goal.at.overflow_mul-i-3 c).After-scaled-x in omega arith

pub overflow_add-i : goal.overflow_add-i
overflow_add-i c = let h = product (goal.at.overflow_add-i c).After-scaled-x in omega arith

pub quotient-q-requires : goal.quotient-q-requires
quotient-q-requires c = let r = rest (goal.at.quotient-q-requires c).After-scaled-x in let h = product (goal.at.quotient-q-requires c).After-scaled-x in (omega arith, omega arith, omega arith)

pub tangent_angle-requires : goal.tangent_angle-requires
tangent_angle-requires c = let l = index (goal.at.tangent_angle-requires c).After-scaled-x in omega arith

pub angle_sum-requires : goal.angle_sum-requires
angle_sum-requires c =
    let s = (goal.at.angle_sum-requires c).After-scaled-x in
    sum-fits c.tangent_angle.ensures c.quotient-q.ensures (E (x s) (2 ^ 30) (2 ^ 20) (range s).1 (lit< tt) (lit≤ tt) (lit≤ tt) (least s)).most (q-most (x s) (2 ^ 30) (2 ^ 20) (range s).1 (lit< tt) (lit≤ tt) (lit≤ tt) (least s))

pub returns : goal.returns
returns c =
    c.angle_sum.ensures ∙ ap₂ (λ (A q : ℕ). angle_of A q) c.tangent_angle.ensures c.quotient-q.ensures
    ∙ ap (λ (X : ℕ). gentle_of X (2 ^ 30) (2 ^ 20)) c.scaled-x.ensures
